-- Cutting a line at a word.
use Rattle.std.specs.Prelude.{ℕ, List, [], ◌∷◌, Option, Some, None, if◌then◌else◌}
use Rattle.std.specs.Str.{bytes_eq}

-- the fields in front of the first that is this word; all, where none is
abbrev pub front_of : List ℕ → List (List ℕ) → List (List ℕ)
front_of word [] = []
front_of word (f ∷ fs) = if bytes_eq f word then [] else f ∷ front_of word fs

-- the fields after the sign, if there is one
abbrev pub behind_of : List ℕ → List (List ℕ) → Option (List (List ℕ))
behind_of word [] = None
behind_of word (f ∷ fs) = if bytes_eq f word then Some fs else behind_of word fs
