-- What was written is the text of the certificate.
use Rattle.std.proofs.Common.{◌≡◌, ℕ, List, [], ◌∷◌, ◌++◌, map, sym, ap, ◌∙◌, append_assoc, decimal}
use Rattle.std.proofs.lemmas.List.Concat.{flat_map-cons}
use Rattle.texts.specs.Parts.{line_text, spaced}
use Rattle.texts.proofs.Spaced.{line-written}
use Rattle.ring_table.specs.Spelling.{name_at}
use Rattle.plan_cert.proofs.Terms.{Chain, side_word, chain_fields}

pub chain-written : (names : List (List ℕ)) (x : Chain) (o a b c d : List ℕ) → a ≡ o ++ side_word x.side → b ≡ a ++ 32 ∷ name_at names x.node → c ≡ b ++ spaced (map decimal x.steps) → d ≡ c ++ 10 ∷ [] → d ≡ o ++ line_text (chain_fields names x)
chain-written names x o a b c d ea eb ec ed =
    let name = name_at names x.node in
    let all : c ≡ a ++ spaced (name ∷ map decimal x.steps) = ec ∙ rw eb (append_assoc a (32 ∷ name) (spaced (map decimal x.steps))) ∙ ap (λ (r : List ℕ). a ++ r) (sym (flat_map-cons (λ (g : List ℕ). 32 ∷ g) name (map decimal x.steps))) in
    line-written o a c d (side_word x.side) (name ∷ map decimal x.steps) ea all ed
