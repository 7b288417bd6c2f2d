-- Rows of numbers that stand in one list, one after the other.
use Rattle.std.specs.Prelude.{◌≡◌, ℕ, ◌≤◌, List, [], ◌∷◌, length}
use Rattle.std.specs.List.{slice_range}
use Rattle.ring_names.specs.declared.rows.Rows.TheInside.{Inside}

-- the rows that end at these places, the first of which begins at a place
abbrev pub rows_from : List ℕ → ℕ → List ℕ → List (List ℕ)
rows_from numbers from [] = []
rows_from numbers from (to ∷ ends) = slice_range numbers from to ∷ rows_from numbers to ends

-- the rows that are kept so
abbrev pub rows_of : Inside → List (List ℕ)
rows_of a = rows_from a.numbers.items 0 a.ends.items

-- the places do not descend, from the first place up to the last
abbrev pub AreEnds : ℕ → List ℕ → ℕ → Type 0
AreEnds from [] last = from ≡ last
AreEnds from (to ∷ ends) last = (from ≤ to) × AreEnds to ends last

-- what holds of the fields together
abbrev pub HoldsRows : Inside → Type 0
HoldsRows a = AreEnds 0 a.ends.items (length a.numbers.items)
