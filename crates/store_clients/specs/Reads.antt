-- Which nodes a read of a slot needs.
use Rattle.std.specs.Prelude.{◌≡◌, ◌⊎◌, ℕ, Bool, true, false, List, Option, Some}
use Rattle.ring_names.specs.declared.ids.Slot.{Slot}
use Rattle.ring_names.specs.declared.refusal.Refusal.{Refusal}
use Rattle.ring_names.specs.declared.refusal.Refusal.TheVariants.{NodeDown}
use Rattle.ring_versions.specs.declared.version.Version.{Version}
use Rattle.store_parts.specs.declared.slots.SlotNow.{SlotNow}
use Rattle.store_parts.specs.Slots.{slot_now}
use Rattle.store_clients.specs.Keepers.{IsFirstDown}

-- the refusal is that of the slot's owner, if the owner is down. Otherwise it is that of the first node that is
-- down and has versions, if there is one
abbrev pub StopsRead : List (List SlotNow) → (ℕ → Bool) → (ℕ → List Version) → Slot → Option Refusal → Type 0
StopsRead rows up held slot o = (x : SlotNow) → slot_now rows slot ≡ Some x
    → ((up x.owner.0 ≡ false) × (o ≡ Some (NodeDown x.owner.0))) ⊎ ((up x.owner.0 ≡ true) × IsFirstDown up held o)
