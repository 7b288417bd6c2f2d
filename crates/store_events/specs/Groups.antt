-- Slots whose generation is raised because a node is in their group.
use Rattle.std.specs.Prelude.{◌≡◌, ◌↔◌, ℕ, ◌+◌, Bool, true, false, ◌||◌, List, [], option_map, if◌then◌else◌}
use Rattle.ring_names.specs.declared.ids.Slot.{Slot}
use Rattle.ring_versions.specs.declared.version.Version.{Version}
use Rattle.store_parts.specs.declared.slots.SlotNow.{SlotNow}
use Rattle.store_parts.specs.Slots.{slot_now}
use Rattle.store_parts.specs.GuardsKept.{is_served_kept}

-- of the next generation
abbrev pub raised : SlotNow → SlotNow
raised x = record x { generation = x.generation + 1 }

-- the slot is raised if the node serves it or keeps hints for it, and is as before otherwise
abbrev pub RaisesGroup : {K : Type 0} → (ℕ → Slot → K → List Version) → ℕ → Slot → List (List SlotNow) → List (List SlotNow) → Type 0
RaisesGroup {K} hinted x t old new = (keeps : Bool) × ((keeps ≡ false) ↔ ((key : K) → hinted x t key ≡ []))
    × (slot_now new t ≡ (if is_served_kept old t x || keeps then option_map raised (slot_now old t) else slot_now old t))

-- so it is with each slot that passes the test, and all others are as before
pub record RaisesGroups {K : Type 0} (hinted : ℕ → Slot → K → List Version) (x : ℕ) (test : Slot → Bool) (old new : List (List SlotNow)) : Type 0 where
  pub each : (t : Slot) → test t ≡ true → RaisesGroup hinted x t old new
  pub others : (t : Slot) → test t ≡ false → slot_now new t ≡ slot_now old t
