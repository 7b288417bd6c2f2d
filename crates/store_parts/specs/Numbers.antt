-- What is held of keys by number, as what is held of the keys.
use Rattle.std.specs.Prelude.{◌≡◌, ◌≢◌, ◌==◌, ℕ, List, [], Some, None, option_map, slice_get, if◌then◌else◌}
use Rattle.std.specs.Str.{bytes_eq}
use Rattle.ring_names.specs.declared.ids.Slot.{Slot}
use Rattle.ring_versions.specs.declared.version.Version.{Version}
use Rattle.store_maps.specs.Ids.{of_chunk}
use Rattle.store_maps.specs.declared.key_id.KeyId.{KeyId}
use Rattle.store_parts.specs.KeyTable.{KeyTable, chunk_of, id_of}

-- what is held of the key, nothing if it has no number
abbrev pub by_bytes : KeyTable → (KeyId → List Version) → List ℕ → List Version
by_bytes t held key = elim (id_of t key) [ Some k ↦ held k | None ↦ [] ]

-- what each node holds for each slot, told by the keys
abbrev pub by_keys : KeyTable → (ℕ → Slot → KeyId → List Version) → ℕ → Slot → List ℕ → List Version
by_keys t held x s = by_bytes t (held x s)

-- an id that holds something has the number of a key in its chunk
abbrev pub ArePlaced : KeyTable → (KeyId → List Version) → Type 0
ArePlaced t held = (k : KeyId) → held k ≢ [] → option_map (chunk_of t.q) (slice_get t.keys k.number) ≡ Some k.chunk

-- these versions at the key, none at others
abbrev pub at_bytes : List ℕ → List Version → List ℕ → List Version
at_bytes key versions k = if bytes_eq key k then versions else []

-- these at the keys of a chunk among q partitions, none at others
abbrev pub in_chunk : ℕ → ℕ → (List ℕ → List Version) → List ℕ → List Version
in_chunk q c held key = if chunk_of q key == c then held key else []

-- what a chunk's numbers hold, told by the keys
abbrev pub in_part : KeyTable → ℕ → (ℕ → List Version) → List ℕ → List Version
in_part t c held = by_bytes t (of_chunk c held)
