-- What keeps acknowledged puts held, slot by slot.
use Rattle.std.specs.Prelude.{◌≡◌, ◌⊎◌, ℕ, ◌+◌, ◌<◌, ◌≤◌, Bool, true, false, ◌&&◌, ◌||◌, nat_lt, List, length, Some, None, is_some}
use Rattle.std.specs.List.{list_all}
use Rattle.ring_names.specs.Lists.{has, all_different}
use Rattle.ring_names.specs.declared.ids.Slot.{Slot}
use Rattle.ring_space.specs.Place.{place_of}
use Rattle.ring_table.specs.Value.{RingValue}
use Rattle.plan_text.specs.declared.step.Source.{Source}
use Rattle.plan_text.specs.declared.step.Planned.{Planned}
use Rattle.plan_text.specs.Steps.{steps_of}
use Rattle.plan_runs.specs.World.{World, count, key_of_put, is_acked, copy_at, mirror_at, stage_now, mirrors_done}
use Rattle.plan_runs.specs.Succession.{Succeeds}
use Rattle.plan_runs.specs.Versions.{put_slot, some_hinted, IsHeld}
use Rattle.plan_runs.specs.Guards.{is_current}

-- how many of the slot's mirrors have a smaller number than step n
abbrev pub mirrors_before : List Planned → Slot → ℕ → ℕ
mirrors_before plan slot n = count (λ s. nat_lt s n && is_some (mirror_at plan s)) (steps_of plan slot)

-- some copy of the slot has the chunk marked, and no mirror of the slot has begun since
abbrev pub IsGiven : List Planned → World → Slot → ℕ → Type 0
IsGiven plan w slot c =
    (n : ℕ) × (from : Source) × (copy_at plan n ≡ Some (slot, from)) × (w.marked n c ≡ true) × (mirrors_before plan slot n ≡ mirrors_done plan w slot)

-- whether the mirror of the slot has the put, or a hint for the slot has it
abbrev pub mirror_has : RingValue → List Planned → World → Slot → ℕ → Bool
mirror_has ring plan w slot v = elim (stage_now ring plan w slot).mirror [ Some x ↦ w.stored x.0 slot v | None ↦ false ] || some_hinted ring w slot v

-- if the slot has a mirror, the put or a successor is at the mirror or kept for the slot as a hint
abbrev pub IsMirrored : RingValue → List Planned → World → ℕ → Slot → Type 0
IsMirrored ring plan w v slot = ((stage_now ring plan w slot).mirror ≡ None) ⊎ ((u : ℕ) × Succeeds w u v × (mirror_has ring plan w slot u ≡ true))

-- both the slot's owner and its mirror have it so
abbrev pub IsTwice : RingValue → List Planned → World → ℕ → Slot → Type 0
IsTwice ring plan w v slot = IsHeld ring plan w v slot × IsMirrored ring plan w v slot

-- the chunk of the put's key
abbrev pub chunk_of_put : RingValue → World → ℕ → ℕ
chunk_of_put ring w v = (place_of ring.q (key_of_put w v)).chunk

-- the owner has it so, and once its chunk is given to the mirror, so has the mirror
abbrev pub IsFirm : RingValue → List Planned → World → ℕ → Slot → Type 0
IsFirm ring plan w v slot = IsHeld ring plan w v slot × (IsGiven plan w slot (chunk_of_put ring w v) → IsMirrored ring plan w v slot)

-- different slots of the put's partition, by index, at each of which it is firm
pub record FirmSlots (ring : RingValue) (plan : List Planned) (w : World) (v : ℕ) (slots : List ℕ) : Type 0 where
  pub different : all_different slots ≡ true
  pub within : list_all (λ i. nat_lt i ring.n) slots ≡ true
  pub firm : (i : ℕ) → has i slots ≡ true → IsFirm ring plan w v (put_slot ring w v i)

-- the put is firm at W slots, less one for each store that was lost
abbrev pub IsFirmEnough : RingValue → List Planned → World → ℕ → Type 0
IsFirmEnough ring plan w v = (slots : List ℕ) × FirmSlots ring plan w v slots × (ring.w ≤ length slots + w.losses)

-- a put is at owner and mirror where it has a current ticket, and firm enough once it is acknowledged
pub record Holding (ring : RingValue) (plan : List Planned) (w : World) : Type 0 where
  pub tickets : (v i : ℕ) → v < length w.puts → is_current ring plan w v i ≡ true → IsTwice ring plan w v (put_slot ring w v i)
  pub acked : (v : ℕ) → is_acked w v ≡ true → IsFirmEnough ring plan w v
