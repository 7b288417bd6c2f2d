-- What a map from keys to versions holds: its own tree lies over what it shares.
use Rattle.std.specs.Prelude.{◌≡◌, ℕ, Bool, true, List, [], Option, Some, None, is_some, unwrap_or}
use Rattle.std.specs.Arc.{arc_value}
use Rattle.std.specs.Option.{option_or}
use Rattle.std.specs.declared.alloc.Global.{Global}
use Rattle.std.specs.declared.sync.Arc.{Arc}
use Rattle.ring_versions.specs.Fresh.{FitsIn}
use Rattle.ring_versions.specs.declared.fresh.Fresh.{Fresh}
use Rattle.ring_versions.specs.declared.version.Version.{Version}
use Rattle.store_maps.specs.declared.key_map.KeyMap.{KeyMap}
use Rattle.store_maps.specs.declared.key_tree.KeyTree.{KeyTree}
use Rattle.store_maps.specs.Trees.{tree_entry, has_entry}

-- what is shared has for the key, if anything is shared and the key has a place there
abbrev pub below : Option (Arc KeyTree Global) → ℕ → Option (List Version)
below None k = None
below (Some shared) k = tree_entry (arc_value shared) k

-- what the map's own tree has for the key, and otherwise what is shared. Opened only by the map's own calls, so
-- that no proof above goes through the cases
unfoldable pub map_entry : KeyMap → ℕ → Option (List Version)
map_entry a k = option_or (tree_entry a.own k) (below a.shared k)

-- the versions of the key, none where it has no place
abbrev pub held : KeyMap → ℕ → List Version
held a k = unwrap_or (map_entry a k) []

-- whether the key has a place, be it empty
abbrev pub has_place : KeyMap → ℕ → Bool
has_place a k = is_some (map_entry a k)

-- whether the key has a place in the map's own tree, so that no memory is needed to change what it has there
abbrev pub has_room : KeyMap → ℕ → Bool
has_room a k = has_entry a.own k

-- the key has a place in the map's own tree, and f was made for its versions
abbrev pub IsReady : KeyMap → ℕ → Fresh → Type 0
IsReady a k f = (has_room a k ≡ true) × FitsIn (held a k) f
