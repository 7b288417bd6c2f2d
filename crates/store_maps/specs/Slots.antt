-- What the maps of a slot hold.
use Rattle.std.specs.Prelude.{Bool, List, [], Option, Some, None}
use Rattle.ring_versions.specs.declared.version.Version.{Version}
use Rattle.store_maps.specs.declared.key_id.KeyId.{KeyId}
use Rattle.store_maps.specs.declared.slot_map.SlotMap.{SlotMap}
use Rattle.store_maps.specs.Chunks.{held_of, place_in}
use Rattle.store_maps.specs.Places.{value_in}

-- the versions of the key, none if it has no place in its chunk's map. This and the next are opened only by the
-- slot's own calls
unfoldable pub held_for : SlotMap → KeyId → List Version
held_for a k = held_of (value_in a.chunks.items k.chunk) k.number

-- whether the key has a place in its chunk's map, be it empty
unfoldable pub has_place_for : SlotMap → KeyId → Bool
has_place_for a k = place_in (value_in a.chunks.items k.chunk) k.number

-- the versions of the key, none if there are no maps
abbrev pub held_by : Option SlotMap → KeyId → List Version
held_by None k = []
held_by (Some m) k = held_for m k
