-- What a read of a slot finds, by what a running store keeps.
use Rattle.std.specs.Prelude.{◌≡◌, ℕ, List, [], Some, None, slice_get}
use Rattle.ring_names.specs.declared.ids.Slot.{Slot}
use Rattle.ring_table.specs.Value.{RingValue}
use Rattle.ring_versions.specs.declared.version.Version.{Version}
use Rattle.ring_versions.specs.Versions.{IsMerge}
use Rattle.ring_versions.specs.Puts.{ArePuts}
use Rattle.plan_text.specs.declared.step.Planned.{Planned}
use Rattle.plan_runs.specs.World.{World}
use Rattle.store_parts.specs.Shows.{Shows, value_of}
use Rattle.store_parts.specs.GetsFind.{can_find}
use Rattle.store_parts.specs.declared.gets.GetNow.{GetNow}
use Rattle.store_parts.specs.declared.slots.SlotNow.{SlotNow}
use Rattle.store_parts.specs.Slots.{slot_now}
use Rattle.store_parts.specs.PutsMeet.{clock_at}
use Rattle.store_parts.specs.Kept.{Kept}

-- what the owner of the slot stores of the key, nothing where the ring does not have the slot
abbrev pub owned_at : {K : Type 0} → List (List SlotNow) → (ℕ → Slot → K → List Version) → Slot → K → List Version
owned_at rows stored slot key = elim (slot_now rows slot) [ Some x ↦ stored x.owner.0 slot key | None ↦ [] ]

-- these versions show what the slot has of the get's key, and the numbers are those of their puts. Merged with
-- what the get had found, they are what it found
pub record FindsAt (ring : RingValue) (plan : List Planned) (k : Kept) (w : World) (g i : ℕ) (found : List Version) (puts : List ℕ) : Type 0 where
  pub get : GetNow
  pub is : slice_get k.gets g ≡ Some get
  pub at_slot : List Version
  pub shows : Shows (clock_at k.puts) (value_of w) at_slot (can_find ring plan w g i)
  pub merged : IsMerge get.found at_slot found
  pub numbers : ArePuts at_slot puts
