-- What nodes keep for slots whose nodes were out of reach.
use Rattle.std.specs.Prelude.{ℕ, List}
use Rattle.ring_names.specs.declared.ids.Slot.{Slot}
use Rattle.ring_versions.specs.declared.version.Version.{Version}
use Rattle.store_maps.specs.declared.key_id.KeyId.{KeyId}
use Rattle.ring_hints.specs.declared.hints.Hints.{Hints}
use Rattle.ring_hints.specs.declared.kept_for.KeptFor.{KeptFor}
use Rattle.ring_hints.specs.Maps as maps

-- the versions of the key that the node keeps for the slot
abbrev pub hinted_at : Hints → ℕ → Slot → KeyId → List Version
hinted_at a = maps.hinted_at a.kept

-- at the pair what comes is merged in, and at others nothing
abbrev pub AddsHints : Hints → Hints → KeptFor → (KeyId → List Version) → Type 0
AddsHints old new = maps.AddsHints old.kept new.kept

-- all is as before
abbrev pub AreSameHints : Hints → Hints → Type 0
AreSameHints old new = maps.AreSameHints old.kept new.kept

-- what was at the pair is gone, and all else is as before
abbrev pub TakesHints : Hints → Hints → KeptFor → Type 0
TakesHints old new = maps.TakesHints old.kept new.kept

-- the node keeps something for the slot: not every key is without versions
abbrev pub Keeps : Hints → ℕ → Slot → Type 0
Keeps a = maps.Keeps a.kept

-- how many pairs there are of a node and a slot for which it keeps something
abbrev pub kept_count : Hints → ℕ
kept_count a = maps.kept_count a.kept

-- the nodes with the slots for which they keep something, in the order of their numbers, each once
abbrev pub kept_pairs : Hints → List KeptFor
kept_pairs a = maps.kept_pairs a.kept
