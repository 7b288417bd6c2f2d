-- Numbers that a command line names.
use Rattle.std.specs.Prelude.{◌≡◌, ℕ, ◌≤◌, List, Option, Some, None}
use Rattle.std.specs.Str.Parse.{IsNumeral, digits_value, without_leading_plus}
use Rattle.ringplan_command.specs.declared.counts.Count.{Count}
use Rattle.ringplan_command.specs.declared.counts.Count.TheVariants.{Unnamed, Many, NoNumber}

-- the text is k in decimal digits, perhaps behind a plus, and k is not outside these two
abbrev pub IsNumberFrom : ℕ → ℕ → List ℕ → ℕ → Type 0
IsNumberFrom least most text k = IsNumeral 10 (without_leading_plus text) × (digits_value 10 (without_leading_plus text) ≡ k) × (least ≤ k) × (k ≤ most)

-- k is from 1 to so many
abbrev pub IsNumberTo : ℕ → List ℕ → ℕ → Type 0
IsNumberTo most text k = IsNumberFrom 1 most text k

-- the number that is named, from 1 to so many; if none is named, the other one
abbrev pub IsCount : ℕ → ℕ → Option (List ℕ) → ℕ → Type 0
IsCount most unnamed None k = k ≡ unnamed
IsCount most unnamed (Some text) k = IsNumberTo most text k

-- the number that is named, from the one to the other, if one is
abbrev pub IsNumberNamed : ℕ → ℕ → Option (List ℕ) → Option ℕ → Type 0
IsNumberNamed least most named None = named ≡ None
IsNumberNamed least most named (Some k) = (text : List ℕ) × (named ≡ Some text) × IsNumberFrom least most text k

-- what is named is not a number from the one to the other
abbrev pub HasNoNumberFrom : ℕ → ℕ → Option (List ℕ) → Type 0
HasNoNumberFrom least most named = (text : List ℕ) × (named ≡ Some text) × ((k : ℕ) → IsNumberFrom least most text k → ⊥)

abbrev pub HasNoNumber : ℕ → Option (List ℕ) → Type 0
HasNoNumber most named = HasNoNumberFrom 1 most named

-- what was read of the text of a number from the one to the other
abbrev pub MeansCount : ℕ → ℕ → Option (List ℕ) → Count → Type 0
MeansCount least most named Unnamed = named ≡ None
MeansCount least most named (Many k) = (text : List ℕ) × (named ≡ Some text) × IsNumberFrom least most text k
MeansCount least most named NoNumber = HasNoNumberFrom least most named
