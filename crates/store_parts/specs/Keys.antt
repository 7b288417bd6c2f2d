-- How keys and their places are kept.
use Rattle.std.specs.Prelude.{◌≡◌, true, map}
use Rattle.ring_names.specs.Space.{is_space}
use Rattle.ring_space.specs.Place.{place_of}
use Rattle.store_parts.specs.KeyTable.{KeyTable}
use Rattle.store_parts.specs.declared.keys.Keys.TheInside.{Inside}

-- the keys that are kept so
abbrev pub keys_of : Inside → KeyTable
keys_of a = record { q = a.q; keys = a.keys }

-- what holds of the fields together: the place at each key's number is the key's
pub record HoldsKeys (a : Inside) : Type 0 where
  pub space : is_space a.q ≡ true
  pub places : a.places.items ≡ map (place_of a.q) a.keys
