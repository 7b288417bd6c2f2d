-- The marks that a list of steps shows, also once one of them was written.
use Rattle.std.proofs.Common.{◌≡◌, inl, inr, ℕ, ◌<◌, List, length, get_or, slice_set, refl, sym, ap, ◌∙◌, Bool, true, false}
use Rattle.std.specs.Prelude.{◌==◌, ◌&&◌, ◌||◌, nat_lt, Option, Some, None, slice_get}
use Rattle.std.proofs.lemmas.Bool.Decides.{eqb_tells}
use Rattle.std.proofs.lemmas.Nat.Bits.{bit_at-zero}
use Rattle.ring_names.proofs.InLists.{get_lent}
use Rattle.plan_runs.specs.World.{passing_below}
use Rattle.plan_runs.specs.Effects.{with_mark as with_chunk}
use Rattle.store_parts.specs.declared.steps.StepNow.{StepNow}
use Rattle.store_parts.specs.declared.marks.Marks.{Marks}
use Rattle.store_parts.specs.Marks.{no_marks, has_mark}
use Rattle.store_parts.specs.Steps.{is_marked, is_marked_at, marks_at}
use Rattle.store_parts.proofs.Counting.{count_none}
use Rattle.store_parts.proofs.Reading.{get_same, get_apart}

pub marks_of_written : (xs : List StepNow) (n c : ℕ) (x y : StepNow) → n < length xs → x ≡ get_or xs n x → ((d : ℕ) → is_marked y d ≡ (d == c) || is_marked x d)
    → (m d : ℕ) → is_marked_at (slice_set xs n y) m d ≡ with_chunk (is_marked_at xs) n c m d
marks_of_written xs n c x y l e h m d = elim (eqb_tells m n) [
  | inl t ↦ rw (t.0, t.1, get_same xs n y, get_lent xs n x l e, is_marked_at) (h d)
  | inr t ↦ rw (t.0, get_apart xs n m y t.1, is_marked_at) refl
]

nothing : (m : ℕ) → has_mark no_marks m ≡ false
nothing m = rw (bit_at-zero m) (and_false (nat_lt m 16))
  where
    and_false : (b : Bool) → b && false ≡ false
    and_false true = refl
    and_false false = refl

-- a step has as many marks as the list shows
pub marked_by : (n m : ℕ) (xs : List StepNow) (marks : Marks) → marks ≡ marks_at xs m → length (passing_below n (has_mark marks)) ≡ length (passing_below n (is_marked_at xs m))
marked_by n m xs marks e = ap (λ (y : Marks). length (passing_below n (has_mark y))) e ∙ at (slice_get xs m)
  where
    at : (o : Option StepNow) → length (passing_below n (has_mark (elim o [ Some now ↦ now.marks | None ↦ no_marks ]))) ≡ length (passing_below n (λ c. elim o [ Some now ↦ is_marked now c | None ↦ false ]))
    at (Some now) = refl
    at None = count_none n (has_mark no_marks) nothing ∙ sym (count_none n (λ c. false) (λ c. refl))
