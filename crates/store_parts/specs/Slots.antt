-- The slots of a running store, by partition and index.
use Rattle.std.specs.Prelude.{◌≡◌, List, Option, Some, None, option_map, option_and_then, slice_get, if◌then◌else◌}
use Rattle.ring_names.specs.declared.ids.NodeId.{NodeId}
use Rattle.ring_names.specs.declared.ids.Slot.{Slot}
use Rattle.plan_text.specs.Steps.{is_slot}
use Rattle.store_parts.specs.declared.slots.SlotNow.{SlotNow}

-- what holds of the slot, if the ring has it
abbrev pub slot_now : List (List SlotNow) → Slot → Option SlotNow
slot_now rows t = option_and_then (λ row. slice_get row t.index) (slice_get rows t.partition)

-- a slot of that owner before the first step
abbrev pub slot_at_start : NodeId → SlotNow
slot_at_start owner = record { owner = owner; mirror = None; generation = 0 }

-- the mirror owns the slot, if there is a mirror
abbrev pub switched : SlotNow → SlotNow
switched x = elim x.mirror [ Some node ↦ record x { owner = node; mirror = None } | None ↦ x ]

-- f is made of what holds of the slot, if the ring has it, and every other slot is as before
abbrev pub ChangesSlot : List (List SlotNow) → List (List SlotNow) → Slot → (SlotNow → SlotNow) → Type 0
ChangesSlot old new slot f = (t : Slot) → slot_now new t ≡ (if is_slot slot t then option_map f (slot_now old t) else slot_now old t)
