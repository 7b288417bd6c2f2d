-- The first and the last line of a section are read only if they are spelled so.
use Rattle.std.proofs.Common.{ℕ, List, [], ◌∷◌, codes, refl}
use Rattle.texts.specs.Judging.{word_at}
use Rattle.texts.specs.Frames.{header_fields, header_at, end_fields, end_line_at}
use Rattle.texts.specs.Laws.{IsLine}
use Rattle.texts.proofs.Items.{IsItem-⊗, IsItem-word, IsLine-whole, IsLine-map, IsLine-as}
use Rattle.texts.proofs.Lates.{At, judges-⊗, judges-word, at-whole, at-map}

abbrev pub Nothing : Unit {0} → Type 0
Nothing x = Unit {0}

pub header-line : (word format : List ℕ) (k : ℕ) → IsLine (header_at word format k) (λ x. header_fields word format) Nothing
unfolding header_at
header-line word format k =
    let pair = IsItem-⊗ (word_at k word) (word_at k format) (λ x. word ∷ []) (λ x. format ∷ []) Nothing Nothing (IsItem-word k word) (IsItem-word k format) in
    let line = IsLine-map _ _ _ (λ x. tt {0}) (λ x. (tt, tt)) (λ a. refl) (λ b. refl) (IsLine-whole k _ _ _ pair) in
    IsLine-as _ _ _ _ _ (λ v. refl) (λ v p. tt) (λ v p. (tt, tt)) line

pub end-line : (k : ℕ) → IsLine (end_line_at k) (λ x. end_fields) Nothing
unfolding end_line_at
end-line k = IsLine-map _ _ _ (λ x. tt {0}) (λ x. tt) (λ a. refl) (λ b. refl) (IsLine-whole k _ _ _ (IsItem-word k (codes "end")))

-- their faults are at their lines
pub header-at : (word format : List ℕ) (k : ℕ) (fields : List (List ℕ)) → At k (header_at word format k fields)
unfolding header_at
header-at word format k fields = at-map k (λ x. tt {0}) _ (at-whole k _ (judges-⊗ k _ _ (judges-word k word) (judges-word k format)) fields)

pub end-at : (k : ℕ) (fields : List (List ℕ)) → At k (end_line_at k fields)
unfolding end_line_at
end-at k fields = at-map k (λ x. tt {0}) _ (at-whole k _ (judges-word k (codes "end")) fields)
