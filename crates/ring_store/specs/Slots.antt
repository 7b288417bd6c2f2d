-- What comes to a slot.
use Rattle.std.specs.Prelude.{Bool, List, [], if◌then◌else◌}
use Rattle.ring_names.specs.contracts.ids.SlotPartialEq.TheImpl as slot_eq
use Rattle.ring_names.specs.declared.ids.Slot.{Slot}
use Rattle.ring_versions.specs.declared.version.Version.{Version}

-- whether two slots are one
abbrev pub same_slot : Slot → Slot → Bool
same_slot a b = ((slot_eq.ghosts).eq) a b

-- this for the keys of the slot, and nothing for those of others
abbrev pub at_slot : {K : Type 0} → Slot → (K → List Version) → Slot → K → List Version
at_slot slot more s k = if same_slot slot s then more k else []
