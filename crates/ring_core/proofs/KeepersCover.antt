-- Keepers whose versions do not cover a clock, one after the other.
use Rattle.std.proofs.Common.{◌≡◌, ℕ, true, false, List}
use Rattle.ring_names.specs.declared.ids.NodeId.{NodeId}
use Rattle.ring_names.specs.declared.ids.Slot.{Slot}
use Rattle.ring_clock.specs.declared.entry.Entry.{Entry}
use Rattle.ring_versions.specs.Versions.{Covers}
use Rattle.ring_hints.specs.declared.hints.Hints.{Hints}
use Rattle.ring_hints.specs.Hints.{hinted_at}
use Rattle.ring_hints.specs.Views.{in_keepers}
use Rattle.store_maps.specs.declared.key_id.KeyId.{KeyId}

-- none of the keepers that are not left covers the clock
abbrev pub NoneBefore : Hints → Slot → KeyId → List Entry → List NodeId → List NodeId → Type 0
NoneBefore hints slot key clock all rest = (x : ℕ) → in_keepers x all ≡ true → in_keepers x rest ≡ false → Covers (hinted_at hints x slot key) clock → ⊥

pub none_first : (hints : Hints) (slot : Slot) (key : KeyId) (clock : List Entry) (all : List NodeId) → NoneBefore hints slot key clock all all
none_first hints slot key clock all x there gone c = absurd cc
