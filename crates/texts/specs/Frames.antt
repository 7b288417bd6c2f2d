-- The first and the last line of each section of a text.
use Rattle.std.specs.Prelude.{ℕ, List, [], ◌∷◌, codes, Result}
use Rattle.ring_names.specs.declared.refusal.Refusal.{Refusal}
use Rattle.texts.specs.Judging.{◌⊗◌, word_at, map_ok, whole}

-- `<word> <format>`, as it is spelled and as it is read
abbrev pub header_fields : List ℕ → List ℕ → List (List ℕ)
header_fields word format = word ∷ format ∷ []

-- that line, read
unfoldable pub header_at : List ℕ → List ℕ → ℕ → List (List ℕ) → Result (Unit {0}) Refusal
header_at word format k fields = map_ok (λ x. tt) (whole k (word_at k word ⊗ word_at k format) fields)

-- `end`
abbrev pub end_fields : List (List ℕ)
end_fields = codes "end" ∷ []

-- that line, read
unfoldable pub end_line_at : ℕ → List (List ℕ) → Result (Unit {0}) Refusal
end_line_at k fields = map_ok (λ x. tt) (whole k (word_at k (codes "end")) fields)
