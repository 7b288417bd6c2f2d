-- Sets of slots.
use Rattle.std.specs.Prelude.{Bool}
use Rattle.std.specs.HashSet as bag
use Rattle.ring_names.specs.contracts.ids.SlotPartialEq.TheImpl as slot_eq
use Rattle.ring_names.specs.declared.ids.Slot.{Slot}
use Rattle.history_laws.specs.declared.slots.SlotSet.{SlotSet}

-- whether the slot is one of them
abbrev pub is_in : SlotSet → Slot → Bool
is_in set s = bag.contains ((slot_eq.ghosts).eq) set.slots s
