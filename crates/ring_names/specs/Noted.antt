-- Numbers that are found by a sum of the bytes that they are of.
use Rattle.std.specs.Prelude.{◌≡◌, ℕ, ◌+◌, ◌*◌, ◌/◌, ◌%◌, ◌<◌, ◌==◌, ◌&&◌, ◌-◌, nat_lt, List, [], ◌∷◌, ◌^◌, length, drop, bit_xor, Option, Some, None, if◌then◌else◌, slice_get}
use Rattle.std.specs.List.{fold}
use Rattle.std.specs.Int.{w64, from_le_bytes}
use Rattle.ring_names.specs.declared.noted.Noted.{Noted}

-- the sum once one more word came
abbrev pub next_sum : ℕ → ℕ → ℕ
next_sum sum word = let product = bit_xor sum word * 11400714819323198485 % 2 ^ 64 in bit_xor product (product / 2 ^ 32)

-- the sum once all whole words of eight bytes came
abbrev pub sum_of_words : ℕ → List ℕ → ℕ
sum_of_words sum (a ∷ b ∷ c ∷ d ∷ e ∷ f ∷ g ∷ h ∷ rest) = sum_of_words (next_sum sum (from_le_bytes w64 (a ∷ b ∷ c ∷ d ∷ e ∷ f ∷ g ∷ h ∷ []))) rest
sum_of_words sum bytes = sum

-- the sum of all words and the last word, or of the bytes if they are few
abbrev pub sum_of : List ℕ → ℕ
sum_of bytes = (if nat_lt (length bytes) 8 then fold next_sum 0 bytes else next_sum (sum_of_words 0 bytes) (from_le_bytes w64 (drop (length bytes - 8) bytes))) / 2 ^ 32

-- the first place of a sum in a table of so many
abbrev pub first_place : ℕ → ℕ → ℕ
first_place places sum = if nat_lt 4294967295 places then 0 else sum * places / 4294967296

-- the number that stands at a place of a table, if it was noted of bytes with the sum
abbrev pub noted_at : List Noted → ℕ → ℕ → Option ℕ
noted_at table place sum = elim (slice_get table place) [ Some e ↦ (if (e.sum == sum) && nat_lt 0 e.next then Some (e.next - 1) else None) | None ↦ None ]

-- the number was noted of the bytes: at one of eight places, from their sum's place on
abbrev pub IsNoted : List Noted → List ℕ → ℕ → Type 0
IsNoted table bytes n = (near : ℕ) × (near < 8) × (noted_at table (first_place (length table) (sum_of bytes) + near) (sum_of bytes) ≡ Some n)
