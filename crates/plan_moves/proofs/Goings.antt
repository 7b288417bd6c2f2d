-- Tokens one after the other.
use Rattle.std.proofs.Common.{◌≡◌, ◌∙◌, ℕ, List, [], ◌∷◌, ◌++◌, refl, ap}
use Rattle.std.proofs.lemmas.List.{append_assoc}
use Rattle.json.specs.Print.{print}
use Rattle.json.specs.Token.{Token}
use Rattle.json.specs.Tree.{json_tokens}
use Rattle.json.specs.Written.{Written}
use Rattle.serde_json.specs.Data.{Data}
use Rattle.serde_json.specs.Written.{outline, compact_text}
use Rattle.serde_json.proofs.Texts.{print-outline}
use Rattle.plan_moves.specs.Tokens.{GoesOn}

-- tokens, and others after them
pub on-more : (a b c : Written) (xs ys : List Token) → GoesOn a b xs → GoesOn b c ys → GoesOn a c (xs ++ ys)
on-more a b c xs ys p q = (q.0 ∙ p.0, q.1 ∙ ap (λ (ts : List Token). ts ++ ys) p.1 ∙ append_assoc a.tokens xs ys)

-- the text of a line, after the lines so far
pub line-text : (d : Data) (line new : Written) (out all : List ℕ) → (line.before ≡ []) × (line.tokens ≡ []) → GoesOn line new (json_tokens (outline d))
    → all ≡ out ++ ((new.before ++ print new.tokens) ++ 10 ∷ []) → all ≡ out ++ (compact_text d ++ 10 ∷ [])
line-text d line new out all empty w e = e ∙ rw (w.1, empty.1, w.0, empty.0, print-outline d) refl
