-- Values as text: `x`, and two lower-case hexadecimal digits for each byte.
use Rattle.std.specs.Prelude.{ℕ, ◌+◌, ◌-◌, ◌*◌, Bool, true, false, ◌&&◌, ◌||◌, ◌==◌, nat_le, List, [], ◌∷◌, length}
use Rattle.std.specs.Prelude.{if◌then◌else◌}

-- one of `0-9a-f`
abbrev pub is_digit : ℕ → Bool
is_digit c = (nat_le 48 c && nat_le c 57) || (nat_le 97 c && nat_le c 102)

-- what it counts
abbrev pub digit_value : ℕ → ℕ
digit_value c = if nat_le c 57 then c - 48 else c - 87

-- pairs of digits
abbrev pub are_pairs : List ℕ → Bool
are_pairs [] = true
are_pairs (a ∷ []) = false
are_pairs (a ∷ b ∷ cs) = is_digit a && is_digit b && are_pairs cs

-- the bytes that pairs of digits spell
abbrev pub bytes_of : List ℕ → List ℕ
bytes_of [] = []
bytes_of (a ∷ []) = []
bytes_of (a ∷ b ∷ cs) = (16 * digit_value a + digit_value b) ∷ bytes_of cs

-- `x` and the digits of at most 1,024 bytes
abbrev pub is_value_text : List ℕ → Bool
is_value_text [] = false
is_value_text (x ∷ digits) = (x == 120) && nat_le (length digits) 2048 && are_pairs digits

-- the bytes that such a text spells
abbrev pub value_of : List ℕ → List ℕ
value_of [] = []
value_of (x ∷ digits) = bytes_of digits
