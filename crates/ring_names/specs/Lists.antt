-- Lists of numbers and of names: what is in them, and what repeats.
use Rattle.std.specs.Prelude.{◌≡◌, ℕ, Bool, true, false, not, ◌&&◌, ◌||◌, ◌==◌, List, [], ◌∷◌, ◌++◌, None}
use Rattle.ring_names.specs.Names.{place}

-- whether x is one of the numbers
abbrev pub has : ℕ → List ℕ → Bool
has x [] = false
has x (y ∷ ys) = (x == y) || has x ys

-- whether no number stands twice
abbrev pub all_different : List ℕ → Bool
all_different [] = true
all_different (x ∷ xs) = not (has x xs) && all_different xs

-- each name is new: neither seen before nor earlier in the list
abbrev pub AllNew : List (List ℕ) → List (List ℕ) → Type 0
AllNew seen [] = Unit {0}
AllNew seen (x ∷ xs) = (place seen x ≡ None) × AllNew (seen ++ x ∷ []) xs
