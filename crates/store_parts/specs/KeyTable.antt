-- The keys of puts and gets, without how they are kept.
use Rattle.std.specs.Prelude.{ℕ, List, Option, option_map}
use Rattle.ring_names.specs.Names.{place}
use Rattle.ring_space.specs.Place.{place_of}
use Rattle.store_maps.specs.Ids.{id}
use Rattle.store_maps.specs.declared.key_id.KeyId.{KeyId}

-- the keys in order of first sight, which lie in a space of q partitions
pub record KeyTable : Type 0 where
  pub q : ℕ
  pub keys : List (List ℕ)

-- the chunk of a key among q partitions
unfoldable pub chunk_of : ℕ → List ℕ → ℕ
chunk_of q key = (place_of q key).chunk

-- the key's id, if it has a number
abbrev pub id_of : KeyTable → List ℕ → Option KeyId
id_of t key = option_map (id (chunk_of t.q key)) (place t.keys key)
