-- The numbers of each slot's steps, as they are kept.
use Rattle.std.specs.Prelude.{ℕ, ◌+◌, ◌*◌, Bool, ◌&&◌, nat_lt, List, [], slice_index_or, if◌then◌else◌}
use Rattle.ring_names.specs.ByKey as by_key
use Rattle.ring_names.specs.contracts.ids.SlotPartialEq.TheImpl as slot_eq
use Rattle.ring_names.specs.declared.ids.Slot.{Slot}
use Rattle.plan_text.specs.declared.slot_steps.SlotSteps.{SlotSteps}

-- whether a ring may have the slot
abbrev pub has_place : Slot → Bool
has_place s = nat_lt s.partition 4096 && nat_lt s.index 7

-- the place of the slot's list
abbrev pub place_of : Slot → ℕ
place_of s = 7 * s.partition + s.index

-- the list at the place
abbrev pub list_at : List (List ℕ) → ℕ → List ℕ
list_at lists k = slice_index_or lists k []

-- the numbers of the slot
abbrev pub numbers_at : SlotSteps → Slot → List ℕ
numbers_at a s = if has_place s then list_at a.placed.items (place_of s) else by_key.list_at ((slot_eq.ghosts).eq) a.others s
