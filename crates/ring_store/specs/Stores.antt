-- What all nodes store.
use Rattle.std.specs.Prelude.{◌≡◌, ◌+◌, ◌*◌, ℕ, nat_lt, List, [], Option, Some, None, if◌then◌else◌, slice_get}
use Rattle.std.specs.Option.{ForSome}
use Rattle.ring_names.specs.declared.ids.Slot.{Slot}
use Rattle.ring_versions.specs.declared.fresh.Fresh.{Fresh}
use Rattle.ring_versions.specs.declared.version.Version.{Version}
use Rattle.store_maps.specs.Chunks.{held_of}
use Rattle.store_maps.specs.Held.{IsReady}
use Rattle.store_maps.specs.Merges.{AreReady}
use Rattle.store_maps.specs.Sorted.{IsThere}
use Rattle.store_maps.specs.declared.fresh_keys.FreshKeys.{FreshKeys}
use Rattle.store_maps.specs.declared.key_id.KeyId.{KeyId}
use Rattle.store_maps.specs.declared.key_map.KeyMap.{KeyMap}
use Rattle.ring_store.specs.Seats.{seat_cmp, map_at, seat_of}
use Rattle.ring_store.specs.declared.row.Row.{Row}
use Rattle.ring_store.specs.declared.seat.Seat.{Seat}
use Rattle.ring_store.specs.declared.stores.Stores.{Stores}

-- how many partitions the hash space has
abbrev pub shared_space : Stores → ℕ
shared_space a = a.q

-- the map of the seat, if there is a row, and the row has one
abbrev pub map_of : Option Row → Seat → Option KeyMap
map_of None t = None
map_of (Some row) t = map_at row.maps.items t

-- the map of the seat in row i
abbrev pub map_on : Stores → ℕ → Seat → Option KeyMap
map_on a i t = map_of (slice_get a.rows.items i) t

-- the versions of the key in the slot at the node
abbrev pub held_at : Stores → ℕ → Slot → KeyId → List Version
held_at a x s k = if nat_lt k.chunk 16 then held_of (map_on a (16 * s.partition + k.chunk) (seat_of x s)) k.number else []

-- the place of the seat's map in row i
abbrev pub IsPlaceOn : Stores → ℕ → Seat → ℕ → Type 0
IsPlaceOn a i t place = ForSome (slice_get a.rows.items i) (λ row. IsThere seat_cmp t row.maps.items place)

-- no map is another but that of the seat in row i
pub record Changes (i : ℕ) (seat : Seat) (old new : Stores) : Type 0 where
  pub space : shared_space new ≡ shared_space old
  pub others : (j : ℕ) (t : Seat) → (j ≡ i → t ≡ seat → ⊥) → map_on new j t ≡ map_on old j t

-- there is a map, the key has a place in its own tree, and f was made for the key's versions
abbrev pub IsReadyIn : Option KeyMap → ℕ → Fresh → Type 0
IsReadyIn None n f = ⊥
IsReadyIn (Some m) n f = IsReady m n f

-- there is a map, and f was made for it
abbrev pub AreReadyIn : Option KeyMap → FreshKeys → Type 0
AreReadyIn None f = ⊥
AreReadyIn (Some m) f = AreReady m f
