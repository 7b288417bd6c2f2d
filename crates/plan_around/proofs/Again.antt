-- What is read again is the same.
use Rattle.std.proofs.Common.{◌≡◌, ◌++◌, ◌∙◌, ℕ, List, ap, append_assoc}

-- three texts, and after them a fourth
pub four : (r p c h bytes text more : List ℕ) → text ≡ r ++ (p ++ c) → more ≡ h → bytes ≡ text ++ more → bytes ≡ r ++ (p ++ (c ++ h))
four r p c h bytes text more e f g = g ∙ ap (λ (l : List ℕ). l ++ more) e ∙ ap (λ (l : List ℕ). (r ++ (p ++ c)) ++ l) f ∙ append_assoc r (p ++ c) h ∙ ap (λ (l : List ℕ). r ++ l) (append_assoc p c h)
