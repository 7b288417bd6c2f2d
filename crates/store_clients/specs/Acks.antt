-- Which tickets of a put are current, by what a running store keeps.
use Rattle.std.specs.Prelude.{ℕ, Bool, false, ◌==◌, List, Some, None}
use Rattle.ring_names.specs.declared.ids.Slot.{Slot}
use Rattle.plan_runs.specs.World.{slot_at}
use Rattle.store_parts.specs.declared.puts.PutNow.{PutNow}
use Rattle.store_parts.specs.declared.slots.SlotNow.{SlotNow}
use Rattle.store_parts.specs.Puts.{ticket_at}
use Rattle.store_parts.specs.Slots.{slot_now}

-- the generation of the slot, 0 where the ring does not have it
abbrev pub generation_in : List (List SlotNow) → Slot → ℕ
generation_in rows slot = elim (slot_now rows slot) [ Some x ↦ x.generation | None ↦ 0 ]

-- whether the put's ticket for the partition's slot with that index is of the slot's generation
abbrev pub is_current_in : List (List SlotNow) → PutNow → ℕ → ℕ → Bool
is_current_in rows put p i = elim (ticket_at put i) [ Some g ↦ g == generation_in rows (slot_at p i) | None ↦ false ]
