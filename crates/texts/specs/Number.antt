-- Numbers in decimal.
use Rattle.std.specs.Prelude.{ℕ, ◌+◌, ◌-◌, ◌*◌, Bool, ◌&&◌, ◌||◌, ◌==◌, nat_lt, List, [], ◌∷◌, length, slice_index, Option, Some, None, if◌then◌else◌, min}
use Rattle.std.specs.Str.{all_ascii_digits}

-- the number of which n are the first digits and these the others
abbrev pub value_from : ℕ → List ℕ → ℕ
value_from n [] = n
value_from n (c ∷ cs) = value_from (10 * n + (c - 48)) cs

-- digits, without a leading zero
abbrev pub is_number : List ℕ → Bool
is_number ds = all_ascii_digits ds && (nat_lt 48 (slice_index ds 0) || (length ds == 1))

-- the number that a field spells
abbrev pub decimal_value : List ℕ → Option ℕ
decimal_value ds = if is_number ds then Some (value_from 0 ds) else None

-- numbers from 2 ^ 32 on are not told apart
abbrev pub capped : ℕ → ℕ
capped n = min n 4294967296
