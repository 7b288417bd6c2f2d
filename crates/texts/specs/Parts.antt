-- A text as lines of fields, and lines of fields as a text.
use Rattle.std.specs.Prelude.{ℕ, Bool, List, [], ◌∷◌, ◌++◌, ◌==◌, map, if◌then◌else◌}
use Rattle.std.specs.List.{slice_split, join_with_byte, flat_map}

-- the parts of a line between the spaces
abbrev pub fields_of : List ℕ → List (List ℕ)
fields_of line = slice_split (λ b. b == 32) line

-- the parts of a text between the bytes 0A, each as its fields; the last one is not ended
abbrev pub lines_of : List ℕ → List (List (List ℕ))
lines_of text = map fields_of (slice_split (λ b. b == 10) text)

-- a line: its fields between single spaces, and the byte 0A
abbrev pub line_text : List (List ℕ) → List ℕ
line_text fields = join_with_byte 32 fields ++ 10 ∷ []

-- lines, one after the other
abbrev pub text_of : List (List (List ℕ)) → List ℕ
text_of lines = flat_map line_text lines

-- fields, each behind a space
abbrev pub spaced : List (List ℕ) → List ℕ
spaced fields = flat_map (λ field. 32 ∷ field) fields

-- the bytes in front of the first that ends them
abbrev pub until : (ℕ → Bool) → List ℕ → List ℕ
until ends [] = []
until ends (b ∷ bs) = if ends b then [] else b ∷ until ends bs
