-- Small facts of truth values and numbers, for all crates. Most of this kind are the toolchain's own.
use Rattle.std.proofs.Common.{◌≡◌, ◌∙◌, ◌⊎◌, inl, inr, ℕ, suc, ◌+◌, Bool, true, false, cond, not, Option, Some, None, refl, sym, ap, arith}
use Rattle.std.specs.Prelude.{◌&&◌, ◌||◌, ◌==◌, nat_lt, max, option_map}
use Rattle.std.specs.declared.cmp.Ordering.TheVariants.{Less, Equal, Greater}
use Rattle.std.proofs.lemmas.Bool.{eq-eqb, ne_eqb}
use Rattle.std.proofs.lemmas.Bool.Decides.{eqb_tells, nat_tests}

-- ---- truth values

pub and_true : (a : Bool) → (a && true) ≡ a
and_true true = refl
and_true false = refl

pub and_false : (a : Bool) → (a && false) ≡ false
and_false true = refl
and_false false = refl

pub and_not : (a : Bool) → (a && not a) ≡ false
and_not true = refl
and_not false = refl

pub or_true : (a : Bool) → (a || true) ≡ true
or_true true = refl
or_true false = refl

pub or_false : (a : Bool) → (a || false) ≡ a
or_false true = refl
or_false false = refl

pub or_again : (a b : Bool) → (a || b) ≡ (a || (a || b))
or_again true b = refl
or_again false b = refl

pub or_assoc : (a b c : Bool) → (a || (b || c)) ≡ ((a || b) || c)
or_assoc true b c = refl
or_assoc false b c = refl

pub or_swapped : (a b c : Bool) → (a || (b || c)) ≡ (b || (a || c))
or_swapped true true c = refl
or_swapped true false c = refl
or_swapped false true c = refl
or_swapped false false c = refl

pub not_moved : (a b c d : Bool) → (not (a || b) && (c && not d)) ≡ ((not b && c) && not (a || d))
not_moved true true true d = refl
not_moved true true false d = refl
not_moved true false true d = refl
not_moved true false false d = refl
not_moved false true c d = refl
not_moved false false c d = refl

pub bool_same : (a b : Bool) → (a ≡ true → b ≡ true) → (b ≡ true → a ≡ true) → a ≡ b
bool_same true b f g = sym (f refl)
bool_same false true f g = g refl
bool_same false false f g = refl

-- ---- choices

pub cond_some : (b : Bool) (x n : ℕ) → cond b (Some x) None ≡ Some n → (b ≡ true) × (x ≡ n)
cond_some true x n e = (refl, cc)
cond_some false x n e = absurd cc

pub cond_none : (b : Bool) (o : Option ℕ) → cond b (Some 0) (option_map (λ m. suc m) o) ≡ None → (b ≡ false) × (o ≡ None)
cond_none true o e = absurd cc
cond_none false None e = (refl, refl)
cond_none false (Some m) e = absurd cc

pub first_less : (b c : Bool) → cond b Less (cond c Equal Greater) ≡ Less → b ≡ true
first_less true c h = refl
first_less false true h = absurd cc
first_less false false h = absurd cc

-- ---- numbers

pub eqb_turned : (x y : ℕ) → (x == y) ≡ (y == x)
eqb_turned x y = elim (eqb_tells x y) [ inl t ↦ t.0 ∙ sym (eq-eqb y x (sym t.1)) | inr t ↦ t.0 ∙ sym (ne_eqb y x (λ e. t.1 (sym e))) ]

pub lt_self : (n : ℕ) → nat_lt n n ≡ false
lt_self n = grind (arith, nat_tests)

pub max_either : (a b : ℕ) → (max a b ≡ a) ⊎ (max a b ≡ b)
max_either a b = elim (eqb_tells (max a b) a) [ inl t ↦ inl t.1 | inr t ↦ inr (grind (arith, t.1)) ]

pub zero_plus : (n : ℕ) → 0 + n ≡ n
zero_plus n = omega arith

pub plus_zero : (n : ℕ) → n + 0 ≡ n
plus_zero n = omega arith

pub plus_suc : (k n : ℕ) → k + 1 + n ≡ k + suc n
plus_suc k n = omega arith

-- ---- pairs

pub pair_is : {A B : Type 0} (p : A × B) (x : A) (y : B) → p ≡ (x, y) → (p.0 ≡ x) × (p.1 ≡ y)
pair_is p x y e = (ap (λ q. q.0) e, ap (λ q. q.1) e)

pub pair_of : {A B : Type 0} (p : A × B) (x : A) (y : B) → p.0 ≡ x → p.1 ≡ y → p ≡ (x, y)
pair_of p x y e f = rw (← e, ← f) refl
