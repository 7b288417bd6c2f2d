-- The places of puts.
use Rattle.std.specs.Prelude.{◌≡◌, ℕ, Bool, true, ◌&&◌, ◌||◌, ◌==◌, List, length}
use Rattle.std.specs.Bool.{Decides}
use Rattle.ring_names.specs.declared.ids.Slot.{Slot}
use Rattle.ring_space.specs.Place.{place_of}
use Rattle.ring_table.specs.Value.{RingValue}
use Rattle.plan_text.specs.declared.step.Planned.{Planned}
use Rattle.plan_runs.specs.World.{World, some_below, stage_now, slot_of, key_of_put, key_of_get}
use Rattle.plan_runs.specs.Succession.{Succeeds, succeeds}

-- the slot of that index of the put's partition
abbrev pub put_slot : RingValue → World → ℕ → ℕ → Slot
put_slot ring w v i = slot_of ring (key_of_put w v) i

-- the slot of that index of the get's partition
abbrev pub get_slot : RingValue → World → ℕ → ℕ → Slot
get_slot ring w g i = slot_of ring (key_of_get w g) i

-- whether the put is of that slot's partition and that chunk
abbrev pub is_in_chunk : RingValue → World → Slot → ℕ → ℕ → Bool
is_in_chunk ring w slot c v = ((place_of ring.q (key_of_put w v)).partition == slot.partition) && ((place_of ring.q (key_of_put w v)).chunk == c)

-- whether some node keeps the put as a hint for the slot
abbrev pub some_hinted : RingValue → World → Slot → ℕ → Bool
some_hinted ring w slot v = some_below (length ring.nodes) (λ x. w.hinted x slot v)

-- whether the owner of the slot has the put, or a hint for the slot has it
abbrev pub slot_has : RingValue → List Planned → World → Slot → ℕ → Bool
slot_has ring plan w slot v = w.stored (stage_now ring plan w slot).owner.0 slot v || some_hinted ring w slot v

-- the put, or one that succeeds it, is at the slot's owner or kept for the slot as a hint
abbrev pub IsHeld : RingValue → List Planned → World → ℕ → Slot → Type 0
IsHeld ring plan w v slot = (u : ℕ) × Succeeds w u v × (slot_has ring plan w slot u ≡ true)

-- the same as a test
abbrev pub is_held : RingValue → List Planned → World → ℕ → Slot → Bool
is_held ring plan w v slot = slot_has ring plan w slot v || some_below (length w.puts) (λ u. succeeds w u v && slot_has ring plan w slot u)

-- the test tells what is held
abbrev pub IsHoldingTested : RingValue → List Planned → World → Type 0
IsHoldingTested ring plan w = (v : ℕ) (slot : Slot) → Decides (is_held ring plan w v slot) (IsHeld ring plan w v slot)
