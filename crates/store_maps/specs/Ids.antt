-- Keys: the chunk of each, and its number.
use Rattle.std.specs.Prelude.{◌==◌, ◌&&◌, ℕ, Bool, List, [], if◌then◌else◌}
use Rattle.ring_versions.specs.declared.version.Version.{Version}
use Rattle.store_maps.specs.declared.key_id.KeyId.{KeyId}

-- the key with this number in the chunk
abbrev pub id : ℕ → ℕ → KeyId
id c n = record { chunk = c; number = n }

-- whether both are one key
abbrev pub same_key : KeyId → KeyId → Bool
same_key a b = (a.chunk == b.chunk) && (a.number == b.number)

-- what is in the chunk, by number, and nothing in the others
abbrev pub of_chunk : ℕ → (ℕ → List Version) → KeyId → List Version
of_chunk c f k = if k.chunk == c then f k.number else []

-- whether the key is in the chunk, and has its number
abbrev pub is_in : ℕ → (ℕ → Bool) → KeyId → Bool
is_in c has k = (k.chunk == c) && has k.number
