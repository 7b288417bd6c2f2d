-- Which nodes keep versions of which keys.
use Rattle.std.specs.Prelude.{◌≡◌, ℕ, Bool, true, false, List, [], ◌∷◌}
use Rattle.std.proofs.Props.{props}
use Rattle.ring_names.specs.declared.ids.Slot.{Slot}
use Rattle.ring_versions.specs.declared.version.Version.{Version}
use Rattle.store_maps.specs.declared.key_id.KeyId.{KeyId}
use Rattle.ring_hints.specs.declared.maps.Maps.{Maps}
use Rattle.ring_hints.specs.declared.slot_holders.SlotHolders.{SlotHolders}
use Rattle.ring_hints.specs.Maps.{hinted_at}
use Rattle.ring_hints.specs.SlotHolders.{holds_for}

-- whether there is a version
abbrev pub has_any : List Version → Bool
has_any [] = false
has_any (v ∷ vs) = true

-- a node is a key's holder for a slot exactly if it keeps a version of it
abbrev pub AreHeld : Maps → SlotHolders → Type 0
AreHeld kept holders = (x : ℕ) (s : Slot) (k : KeyId) → holds_for holders s k x ≡ has_any (hinted_at kept x s k)

pub AreHeld-prop : (kept : Maps) (holders : SlotHolders) → IsProp (AreHeld kept holders)
AreHeld-prop kept holders = hlevel props
