-- The command line that a call stands for.
use Rattle.std.specs.Prelude.{◌==◌, ℕ, List, [], ◌∷◌, codes, if◌then◌else◌, length}
use Rattle.std.specs.List.{slice_split}

-- the parts but for the last one where that is empty
abbrev pub but_empty_last : List (List ℕ) → List (List ℕ)
but_empty_last [] = []
but_empty_last (x ∷ []) = if length x == 0 then [] else x ∷ []
but_empty_last (x ∷ y ∷ more) = x ∷ but_empty_last (y ∷ more)

-- the words of options: each is followed by the byte 0, which the last may lack
abbrev pub words_in : List ℕ → List (List ℕ)
words_in options = but_empty_last (slice_split (λ b. b == 0) options)

-- the words of the command line: the program's name, the command's, and the options
abbrev pub line_of : List ℕ → List ℕ → List (List ℕ)
line_of command options = codes "ringplan" ∷ command ∷ words_in options
