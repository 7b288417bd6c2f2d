-- What a test answers of numbers, one by one.
use Rattle.std.proofs.Common.{◌≡◌, ◌∙◌, ℕ, suc, ◌+◌, Bool, List, [], ◌∷◌, ◌++◌, refl, sym, ap, arith}
use Rattle.plan_goal.specs.Rings.{flags}

pub flags-none : (test : ℕ → Bool) → flags test 0 ≡ []
unfolding flags
flags-none test = refl

pub flags-then : (test : ℕ → Bool) (x : ℕ) → flags test (x + 1) ≡ flags test x ++ test x ∷ []
unfolding flags
flags-then test x = (let e : x + 1 ≡ suc x = omega arith in rw e refl)

-- one answer more behind the others
pub flags-more : (test : ℕ → Bool) (x : ℕ) (answers more : List Bool) (answer : Bool) → more ≡ answers ++ answer ∷ [] → answers ≡ flags test x → answer ≡ test x → more ≡ flags test (x + 1)
flags-more test x answers more answer e f g = e ∙ ap (λ (xs : List Bool). xs ++ answer ∷ []) f ∙ ap (λ (b : Bool). flags test x ++ b ∷ []) g ∙ sym (flags-then test x)
