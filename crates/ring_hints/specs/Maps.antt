-- What nodes keep for slots whose nodes were out of reach.
use Rattle.std.specs.Prelude.{◌≡◌, ℕ, List, [], if◌then◌else◌}
use Rattle.ring_names.specs.declared.ids.Slot.{Slot}
use Rattle.ring_versions.specs.Versions.{IsMerge}
use Rattle.ring_versions.specs.declared.version.Version.{Version}
use Rattle.store_maps.specs.declared.key_id.KeyId.{KeyId}
use Rattle.store_maps.specs.Slots.{held_by}
use Rattle.ring_hints.specs.declared.maps.Maps.{Maps}
use Rattle.ring_hints.specs.declared.kept_for.KeptFor.{KeptFor}
use Rattle.ring_hints.specs.Kept.{map_of}
use Rattle.ring_hints.specs.Pairs.{pair_count, pairs_of}
use Rattle.ring_hints.specs.Views.{is_of, pair_of}

-- the versions of the key that the node keeps for the slot
abbrev pub hinted_at : Maps → ℕ → Slot → KeyId → List Version
hinted_at a x s k = held_by (map_of a.maps (pair_of x s)) k

-- at the pair what comes is merged in, and at others nothing
abbrev pub AddsHints : Maps → Maps → KeptFor → (KeyId → List Version) → Type 0
AddsHints old new pair more = (x : ℕ) (s : Slot) (k : KeyId) → IsMerge (hinted_at old x s k) (if is_of pair x s then more k else []) (hinted_at new x s k)

-- all is as before
abbrev pub AreSameHints : Maps → Maps → Type 0
AreSameHints old new = (x : ℕ) (s : Slot) (k : KeyId) → hinted_at new x s k ≡ hinted_at old x s k

-- what was at the pair is gone, and all else is as before
abbrev pub TakesHints : Maps → Maps → KeptFor → Type 0
TakesHints old new pair = (x : ℕ) (s : Slot) (k : KeyId) → hinted_at new x s k ≡ (if is_of pair x s then [] else hinted_at old x s k)

-- the node keeps something for the slot: not every key is without versions
abbrev pub Keeps : Maps → ℕ → Slot → Type 0
Keeps a x s = ((k : KeyId) → hinted_at a x s k ≡ []) → ⊥

-- how many pairs there are of a node and a slot for which it keeps something
abbrev pub kept_count : Maps → ℕ
kept_count a = pair_count a.pairs

-- the nodes with the slots for which they keep something, in the order of their numbers, each once
abbrev pub kept_pairs : Maps → List KeptFor
kept_pairs a = pairs_of a.pairs
