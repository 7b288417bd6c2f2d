-- Numbers below a limit.
use Rattle.std.proofs.Common.{◌≡◌, ℕ, ◌≤◌, Bool, true, false, cond, nat_lt, List, [], ◌∷◌, Option, Some, None, Result, Ok, Err, refl, ap, subst, ◌∙◌, arith, decimal}
use Rattle.std.specs.List.{list_all}
use Rattle.std.proofs.lemmas.Bool.{lt-ltb, ltb-true, and_parts}
use Rattle.texts.proofs.Forms.{IsPlain, Always, At, Form, field_of, Refusal, BadLine, TooLarge, decimal_value, ok_is, decimal-value, value-decimal, at-if, decimal-plain}
use Rattle.plan_text.specs.Reading.{judge_below}

abbrev within : ℕ → ℕ → Option ℕ → Result ℕ Refusal
within k limit o = elim o [ Some n ↦ cond (nat_lt n limit) (Ok n) (Err (TooLarge k)) | None ↦ Err (BadLine k) ]

module _ (limit : ℕ) where
  within-is : (k v : ℕ) (o : Option ℕ) → within k limit o ≡ Ok v → (o ≡ Some v) × (nat_lt v limit ≡ true)
  within-is k v None e = absurd cc
  within-is k v (Some n) e = by (nat_lt n limit) refl e
    where
      by : (b : Bool) → nat_lt n limit ≡ b → cond b (Ok n) (Err (TooLarge k)) ≡ Ok v → (Some n ≡ Some v) × (nat_lt v limit ≡ true)
      by true h g = let same = ok_is n v g in (ap (λ x. Some x) same, subst (λ (x : ℕ). nat_lt x limit ≡ true) same h)
      by false h g = absurd cc

  pub below-at : (k : ℕ) (field : List ℕ) → At k (judge_below k limit field)
  below-at k field = by (decimal_value field)
    where
      by : (o : Option ℕ) → At k (within k limit o)
      by None = refl
      by (Some n) = at-if k (nat_lt n limit) (Ok n) (Err (TooLarge k)) tt refl

  module _ (wide : limit ≤ 4294967296) where
    pub below-is : (k : ℕ) (field : List ℕ) (v : ℕ) → judge_below k limit field ≡ Ok v → (field ≡ decimal v) × (nat_lt v limit ≡ true)
    below-is k field v e = (let l = within-is k v (decimal_value field) e in (decimal-value field v l.0 (omega (arith, ltb-true v limit l.1)), l.1))

    pub below-given : (k v : ℕ) → nat_lt v limit ≡ true → judge_below k limit (decimal v) ≡ Ok v
    below-given k v lt = ap (within k limit) (value-decimal v (omega (arith, ltb-true v limit lt))) ∙ (let u : within k limit (Some v) ≡ Ok v = rw lt refl in u)

    pub below-plain : (v : ℕ) → nat_lt v limit ≡ true → IsPlain (decimal v)
    below-plain v lt = decimal-plain v (omega (arith, ltb-true v limit lt))

-- a number below a limit
abbrev pub below : {W : Type 0} (limit : ℕ) → (W → limit ≤ 4294967296) → Form W Always ℕ
below limit wide = field_of (λ k. judge_below k limit) decimal (λ v. nat_lt v limit ≡ true) (λ w. below-is limit (wide w)) (λ w. below-given limit (wide w))
    (below-at limit) (λ w. below-plain limit (wide w))

-- numbers below a limit are below each that is wider
pub below_all : (m n : ℕ) (xs : List ℕ) → n ≤ m → list_all (λ i. nat_lt i n) xs ≡ true → list_all (λ i. nat_lt i m) xs ≡ true
below_all m n [] le e = refl
below_all m n (x ∷ xs) le e =
    let p = and_parts (nat_lt x n) (list_all (λ i. nat_lt i n) xs) e in
    let lt = ltb-true x n p.0 in
    rw (lt-ltb x m (omega arith), below_all m n xs le p.1) refl
