-- Numbers in a row.
use Rattle.std.specs.Prelude.{ℕ, Bool, true, ◌&&◌, nat_lt, List, [], ◌∷◌, Option, None, if◌then◌else◌}
use Rattle.std.specs.List.{list_all}
use Rattle.texts.specs.Number.{value_from, is_number, decimal_value}

-- the number that the first field spells
abbrev pub first_value : List (List ℕ) → Option ℕ
first_value [] = None
first_value (field ∷ fields) = decimal_value field

-- what the first fields spell, up to the first that is not a number
abbrev pub numbers_of : List (List ℕ) → List ℕ
numbers_of [] = []
numbers_of (field ∷ fields) = if is_number field then value_from 0 field ∷ numbers_of fields else []

-- the fields from the first that is not a number
abbrev pub beyond : List (List ℕ) → List (List ℕ)
beyond [] = []
beyond (field ∷ fields) = if is_number field then beyond fields else field ∷ fields

-- each is less than the next
abbrev pub ascending : List ℕ → Bool
ascending [] = true
ascending (x ∷ []) = true
ascending (x ∷ y ∷ ys) = nat_lt x y && ascending (y ∷ ys)

-- each number is a `u32`
abbrev pub are_small : List ℕ → Bool
are_small xs = list_all (λ x. nat_lt x 4294967296) xs
