-- What one tree from keys to versions holds.
use Rattle.std.specs.Prelude.{◌≡◌, ℕ, Bool, true, List, Option, is_some}
use Rattle.ring_versions.specs.Fresh.{FitsIn}
use Rattle.ring_versions.specs.declared.fresh.Fresh.{Fresh}
use Rattle.ring_versions.specs.declared.version.Version.{Version}
use Rattle.store_maps.specs.declared.key_tree.KeyTree.{KeyTree}
use Rattle.store_maps.specs.Entries.{entries_of}
use Rattle.store_maps.specs.Places.{held_in, value_in}

-- what the tree has for the key, if that has a place
abbrev pub tree_entry : KeyTree → ℕ → Option (List Version)
tree_entry a k = value_in (entries_of a.entries) k

-- the versions of the key, none where it has no place
abbrev pub kept : KeyTree → ℕ → List Version
kept a k = held_in (entries_of a.entries) k

-- whether the key has a place, be it empty
abbrev pub has_entry : KeyTree → ℕ → Bool
has_entry a k = is_some (tree_entry a k)

-- the key has a place, and f was made for its versions
abbrev pub IsReadyIn : KeyTree → ℕ → Fresh → Type 0
IsReadyIn a k f = (has_entry a k ≡ true) × FitsIn (kept a k) f
