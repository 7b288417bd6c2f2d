-- Items that are written in place.
use Rattle.std.proofs.Common.{◌≡◌, ℕ, zero, suc, ◌<◌, ◌≤◌, List, [], ◌∷◌, length, get_or, slice_set, refl, ap, sym, arith}
use Rattle.plan_runs.specs.Effects.{changed}

-- the item that is there gives way to what f makes of it
pub set_changes : {A : Type 0} (xs : List A) (n : ℕ) (y : A) (f : A → A) → n < length xs → f (get_or xs n y) ≡ y → slice_set xs n y ≡ changed xs n f
set_changes [] n y f l e = absurd (omega arith)
set_changes (x ∷ xs) zero y f l e = ap (λ z. z ∷ xs) (sym e)
set_changes (x ∷ xs) (suc n) y f l e = ap (λ zs. x ∷ zs) (set_changes xs n y f (omega arith) e)

-- where none is there, nothing changes
pub past_changes : {A : Type 0} (xs : List A) (n : ℕ) (f : A → A) → length xs ≤ n → xs ≡ changed xs n f
past_changes [] n f l = refl
past_changes (x ∷ xs) zero f l = absurd (omega arith)
past_changes (x ∷ xs) (suc n) f l = ap (λ zs. x ∷ zs) (past_changes xs n f (omega arith))

pub ruleset writing = (set_changes, past_changes)
