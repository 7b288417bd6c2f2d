-- Merges at every key.
use Rattle.std.specs.Prelude.{◌==◌, ℕ, Bool, List, [], Option, is_some, if◌then◌else◌, MatchOption, IfSome}
use Rattle.ring_versions.specs.Fresh.{IsFreshFor}
use Rattle.ring_versions.specs.Versions.{IsMerge}
use Rattle.ring_versions.specs.declared.fresh.Fresh.{Fresh}
use Rattle.ring_versions.specs.declared.version.Version.{Version}
use Rattle.store_maps.specs.declared.fresh_keys.FreshKeys.{FreshKeys}
use Rattle.store_maps.specs.declared.key_id.KeyId.{KeyId}
use Rattle.store_maps.specs.declared.key_map.KeyMap.{KeyMap}
use Rattle.store_maps.specs.declared.key_tree.KeyTree.{KeyTree}
use Rattle.store_maps.specs.Held.{IsReady}
use Rattle.store_maps.specs.Ids.{same_key}
use Rattle.store_maps.specs.Places.{value_in}
use Rattle.store_maps.specs.Trees.{IsReadyIn}

-- in every key what comes is merged in
abbrev pub MergesAll : {K : Type 0} → (K → List Version) → (K → List Version) → (K → List Version) → Type 0
MergesAll {K} old more new = (k : K) → IsMerge (old k) (more k) (new k)

-- these versions at the number, none at others
abbrev pub at_number : ℕ → List Version → ℕ → List Version
at_number n versions k = if n == k then versions else []

-- these versions at the key, none at others
abbrev pub at_key : KeyId → List Version → KeyId → List Version
at_key key versions k = if same_key key k then versions else []

-- what f has for the key
abbrev pub fresh_at : FreshKeys → ℕ → Option Fresh
fresh_at f k = value_in f.map.entries k

-- whether f has something for the key
abbrev pub has_fresh : FreshKeys → ℕ → Bool
has_fresh f k = is_some (fresh_at f k)

-- f has for each key what comes to those held, and for the others nothing new comes
abbrev pub AreFreshFor : (ℕ → List Version) → (ℕ → List Version) → FreshKeys → Type 0
AreFreshFor held more f = (k : ℕ) → MatchOption (fresh_at f k) (IsMerge (held k) (more k) (held k)) (IsFreshFor (held k) (more k))

-- each key of f has a place in the tree, and what f has for it was made for its versions
abbrev pub AreReadyIn : KeyTree → FreshKeys → Type 0
AreReadyIn a f = (k : ℕ) → IfSome (fresh_at f k) (IsReadyIn a k)

-- each key of f has a place in the map's own tree, and what f has for it was made for its versions
abbrev pub AreReady : KeyMap → FreshKeys → Type 0
AreReady a f = (k : ℕ) → IfSome (fresh_at f k) (IsReady a k)
