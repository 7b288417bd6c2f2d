-- The place of a key, by its digest.
use Rattle.std.specs.Prelude.{ℕ, zero, suc, ◌+◌, ◌-◌, ◌/◌, ◌%◌, ◌^◌, ◌==◌, List, if◌then◌else◌}
use Rattle.std.specs.Int.{w128, from_be_bytes}
use Rattle.md5.specs.Md5.{md5}
use Rattle.ring_space.specs.declared.found.Place.{Place}

-- the first b bits of a digest of 128 bits, read big-endian
abbrev pub first_bits : ℕ → List ℕ → ℕ
first_bits b digest = from_be_bytes w128 digest / 2 ^ (128 - b)

-- the partition is the first b bits, the chunk the next four
abbrev pub place_at : ℕ → List ℕ → Place
place_at b digest = record { partition = first_bits b digest; chunk = first_bits (b + 4) digest % 16 }

-- log2 of a power of two up to 2 ^ n
unfoldable pub log2 : ℕ → ℕ → ℕ
log2 zero q = 0
log2 (suc n) q = if q == 2 ^ suc n then suc n else log2 n q

-- the place of a key among q partitions
abbrev pub place_of : ℕ → List ℕ → Place
place_of q key = place_at (log2 12 q) (md5 key)
