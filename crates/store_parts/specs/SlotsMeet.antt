-- What the slots that are kept say of a world.
use Rattle.std.specs.Prelude.{◌≡◌, List, Some, None, true, false}
use Rattle.ring_names.specs.declared.ids.Slot.{Slot}
use Rattle.ring_table.specs.Value.{RingValue}
use Rattle.plan_text.specs.declared.step.Planned.{Planned}
use Rattle.plan_text.specs.Valid.{is_ring_slot}
use Rattle.plan_runs.specs.World.{World, stage_now, generation}
use Rattle.store_parts.specs.declared.slots.SlotNow.{SlotNow}
use Rattle.store_parts.specs.Slots.{slot_now}

-- it is the slot's owner, mirror and generation
pub record IsNow (ring : RingValue) (plan : List Planned) (w : World) (slot : Slot) (x : SlotNow) : Type 0 where
  pub owner : x.owner ≡ (stage_now ring plan w slot).owner
  pub mirror : x.mirror ≡ (stage_now ring plan w slot).mirror
  pub generation : x.generation ≡ generation plan w slot

-- they tell each ring slot's owner, mirror and generation, and tell of no other slot
pub record SlotsMeet (ring : RingValue) (plan : List Planned) (rows : List (List SlotNow)) (w : World) : Type 0 where
  pub each : (slot : Slot) → is_ring_slot ring slot ≡ true → (x : SlotNow) × (slot_now rows slot ≡ Some x) × IsNow ring plan w slot x
  pub others : (slot : Slot) → is_ring_slot ring slot ≡ false → slot_now rows slot ≡ None
