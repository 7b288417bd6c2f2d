-- Fields behind spaces.
use Rattle.std.proofs.Common.{◌≡◌, ℕ, List, [], ◌∷◌, ◌++◌, sym, ap, ◌∙◌, append_assoc}
use Rattle.std.specs.List.{join_with_byte}
use Rattle.std.proofs.lemmas.Grind.{flat_map-append}
use Rattle.std.proofs.lemmas.List.{append-nil}
use Rattle.std.proofs.lemmas.List.Concat.{flat_map-cons}
use Rattle.texts.specs.Parts.{line_text, spaced}

-- a word, and fields behind it
pub join-spaced : (w : List ℕ) (fs : List (List ℕ)) → join_with_byte 32 (w ∷ fs) ≡ w ++ spaced fs
join-spaced w [] = sym (append-nil w)
join-spaced w (f ∷ fs) = ap (λ (r : List ℕ). w ++ 32 ∷ r) (join-spaced f fs) ∙ ap (λ (r : List ℕ). w ++ r) (sym (flat_map-cons (λ (g : List ℕ). 32 ∷ g) f fs))

pub spaced-append : (fs gs : List (List ℕ)) → spaced (fs ++ gs) ≡ spaced fs ++ spaced gs
spaced-append fs gs = flat_map-append (λ (g : List ℕ). 32 ∷ g) fs gs

pub join-more : (w : List ℕ) (fs gs : List (List ℕ)) → join_with_byte 32 ((w ∷ fs) ++ gs) ≡ join_with_byte 32 (w ∷ fs) ++ spaced gs
join-more w fs gs = join-spaced w (fs ++ gs) ∙ ap (λ (r : List ℕ). w ++ r) (spaced-append fs gs) ∙ sym (append_assoc w (spaced fs) (spaced gs)) ∙ ap (λ (r : List ℕ). r ++ spaced gs) (sym (join-spaced w fs))

-- a word and two parts
pub two-parts : (o a b c w : List ℕ) (fs gs : List (List ℕ)) → a ≡ o ++ w → b ≡ a ++ spaced fs → c ≡ b ++ spaced gs → c ≡ o ++ join_with_byte 32 (w ∷ (fs ++ gs))
two-parts o a b c w fs gs ea eb ec = ec ∙ rw (eb, ea) (simp append_assoc) ∙ ap (λ (r : List ℕ). o ++ (w ++ r)) (sym (spaced-append fs gs)) ∙ ap (λ (r : List ℕ). o ++ r) (sym (join-spaced w (fs ++ gs)))

-- a line: a word, fields behind it, and the line's last byte
pub line-written : (o a b c w : List ℕ) (fs : List (List ℕ)) → a ≡ o ++ w → b ≡ a ++ spaced fs → c ≡ b ++ 10 ∷ [] → c ≡ o ++ line_text (w ∷ fs)
line-written o a b c w fs ea eb ec = ec ∙ rw (eb, ea) (simp append_assoc) ∙ ap (λ (r : List ℕ). o ++ (r ++ 10 ∷ [])) (sym (join-spaced w fs))
