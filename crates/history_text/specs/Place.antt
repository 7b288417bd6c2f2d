-- The place in the whole of an entry of the part.
use Rattle.std.specs.Prelude.{◌≡◌, ℕ, ◌+◌, ◌≤◌, Bool, cond, List, [], ◌∷◌, ◌++◌, length, Option, Some, None, min}
use Rattle.ring_table.specs.Value.{RingValue}
use Rattle.plan_runs.specs.declared.event.Entry.{Entry}
use Rattle.history_laws.specs.Parts.{IsPlace, part_of}
use Rattle.history_text.specs.declared.place.Place.{Place}
use Rattle.history_text.specs.Room.{most}

-- entry n of the part is that one of the whole, as far as entries are counted; or the part has no entry n
abbrev pub IsPlaceOf : RingValue → (ℕ → Bool) → List Entry → ℕ → Option ℕ → Type 0
IsPlaceOf ring is_in entries n None = length (part_of ring is_in entries) ≤ n
IsPlaceOf ring is_in entries n (Some k) = (p : ℕ) × (k ≡ min p most) × IsPlace ring is_in entries n p

-- these entries were counted
pub record Finds (ring : RingValue) (is_in : ℕ → Bool) (entries : List Entry) (n : ℕ) (place : Place) : Type 0 where
  pub wanted : place.wanted ≡ n
  pub seen : place.seen ≡ min (length entries) most
  pub found : IsPlaceOf ring is_in entries n place.found

-- one more entry was counted, of the part or not
abbrev pub FindsMore : Place → Place → Bool → ℕ → Type 0
FindsMore old new is_kept before = (ring : RingValue) (is_in : ℕ → Bool) (xs : List Entry) (x : Entry) (n : ℕ) → Finds ring is_in xs n old
    → before ≡ min (length (part_of ring is_in xs)) most → length (part_of ring is_in (xs ++ x ∷ [])) ≡ length (part_of ring is_in xs) + cond {A = ℕ} is_kept 1 0
    → Finds ring is_in (xs ++ x ∷ []) n new
