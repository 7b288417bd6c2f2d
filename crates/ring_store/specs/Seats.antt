-- The maps of a row, by seat.
use Rattle.std.specs.Prelude.{ℕ, List, Option}
use Rattle.std.specs.List.Sorted.{IsStrictlySortedBy-prop}
use Rattle.std.specs.Map.{keys_of}
use Rattle.std.specs.declared.cmp.Ordering.{Ordering}
use Rattle.ring_names.specs.declared.ids.Slot.{Slot}
use Rattle.store_maps.specs.Sorted.{value_by, Ascends}
use Rattle.store_maps.specs.declared.key_map.KeyMap.{KeyMap}
use Rattle.ring_store.specs.contracts.seat.SeatOrd.TheImpl as seat_order
use Rattle.ring_store.specs.declared.seat.Seat.{Seat}

-- the order of seats: by index, and by node at an index
abbrev pub seat_cmp : Seat → Seat → Ordering
seat_cmp = (seat_order.ghosts).cmp

-- the seats ascend
abbrev pub AreInOrder : List (Seat × KeyMap) → Type 0
AreInOrder maps = Ascends seat_cmp maps

pub AreInOrder-prop : (maps : List (Seat × KeyMap)) → IsProp (AreInOrder maps)
AreInOrder-prop maps = IsStrictlySortedBy-prop seat_cmp (keys_of maps)

-- the map of the seat, if it has one
abbrev pub map_at : List (Seat × KeyMap) → Seat → Option KeyMap
map_at maps t = value_by seat_cmp maps t

-- the seat of a node's map of the slot
abbrev pub seat_of : ℕ → Slot → Seat
seat_of x s = record { index = s.index; node = record { 0 = x } }
