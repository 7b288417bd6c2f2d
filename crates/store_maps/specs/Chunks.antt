-- The maps of a slot's chunks.
use Rattle.std.specs.Prelude.{◌≡◌, ◌≤◌, ℕ, Bool, false, List, [], Option, Some, None}
use Rattle.ring_versions.specs.declared.version.Version.{Version}
use Rattle.store_maps.specs.declared.key_map.KeyMap.{KeyMap}
use Rattle.store_maps.specs.Held.{held, has_place}
use Rattle.store_maps.specs.Places.{value_in}

-- no key has a place
abbrev pub IsBare : KeyMap → Type 0
IsBare m = (k : ℕ) → has_place m k ≡ false

-- only the sixteen chunks of a slot have maps
abbrev pub AreNarrow : List (ℕ × KeyMap) → Type 0
AreNarrow chunks = (c : ℕ) → 16 ≤ c → value_in chunks c ≡ None

-- the versions of the key in the map, if there is a map
abbrev pub held_of : Option KeyMap → ℕ → List Version
held_of None k = []
held_of (Some m) k = held m k

-- whether the key has a place in the map, if there is a map
abbrev pub place_in : Option KeyMap → ℕ → Bool
place_in None k = false
place_in (Some m) k = has_place m k
