-- The numbers of steps in another plan.
use Rattle.std.proofs.Common.{◌≡◌, ℕ, zero, suc, ◌<◌, ◌≤◌, ◌⊎◌, inl, inr, List, [], ◌∷◌, length, Option, Some, None, refl, sym, subst, ◌+◌, ◌∙◌, arith}
use Rattle.std.proofs.lemmas.Bool.{cases_lt}
use Rattle.plan_text.specs.declared.step.Planned.{Planned}
use Rattle.history_laws.specs.Past.{number_in, Keeps}

-- a step that the list does not have has no number
pub beyond : (numbers : List (Option ℕ)) (k : ℕ) → length numbers ≤ k → number_in numbers k ≡ None
beyond [] zero l = refl
beyond [] (suc k) l = refl
beyond (x ∷ xs) zero l = absurd (omega arith)
beyond (x ∷ xs) (suc k) l = beyond xs k (omega arith)

-- what holds for all steps in the list holds for all steps
pub keep-beyond : (old new : List Planned) (numbers : List (Option ℕ)) (olds : List ℕ) → ((k : ℕ) → k < length numbers → Keeps old new numbers olds k) → (k : ℕ) → Keeps old new numbers olds k
keep-beyond old new numbers olds all k n e = elim (cases_lt k (length numbers)) [
  | inl l ↦ all k l n e
  | inr l ↦ absurd (let f : None ≡ Some n = sym (beyond numbers k l) ∙ e in cc)
]

cut : (k m : ℕ) → k < m + 1 → (k < m) ⊎ (m ≡ k)
cut k m l = grind arith

-- what holds for the steps below m and for step m holds below m + 1
pub keep-more : (old new : List Planned) (numbers : List (Option ℕ)) (olds : List ℕ) (m : ℕ) → ((k : ℕ) → k < m → Keeps old new numbers olds k) → Keeps old new numbers olds m → (k : ℕ) → k < m + 1 → Keeps old new numbers olds k
keep-more old new numbers olds m below here k l = elim (cut k m l) [
  | inl h ↦ below k h
  | inr h ↦ subst (λ (j : ℕ). Keeps old new numbers olds j) h here
]

-- no two steps have one number
pub once : (old new : List Planned) (numbers : List (Option ℕ)) (olds : List ℕ) → ((k : ℕ) → Keeps old new numbers olds k) → (j k n : ℕ) → number_in numbers j ≡ Some n → number_in numbers k ≡ Some n → j ≡ k
once old new numbers olds all j k n e f = (let g : Some j ≡ Some k = sym (all j n e).1 ∙ (all k n f).1 in cc)
