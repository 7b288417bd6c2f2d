-- How many steps of a slot pass a test, once one more is finished.
use Rattle.std.proofs.Common.{◌≡◌, inl, inr, ◌∙◌, ℕ, suc, ◌+◌, ◌≤◌, Bool, true, false, cond, List, [], ◌∷◌, length, get_or, refl, sym, ap, arith, eq-eqb}
use Rattle.std.specs.Prelude.{◌==◌, ◌&&◌, ◌||◌}
use Rattle.std.proofs.lemmas.Bool.Decides.{eqb_tells}
use Rattle.std.proofs.lemmas.Bool.{and_from, or_left}
use Rattle.ring_names.specs.Lists.{has}
use Rattle.plan_runs.specs.World.{count}
use Rattle.plan_runs.specs.Effects.{with_number}
use Rattle.plan_runs.proofs.Prefix.{found, Rises, rising, count_same}

-- no number passes what none passes
pub count_none : (test : ℕ → Bool) (ss : List ℕ) → count (λ s. false && test s) ss ≡ 0
count_none test [] = refl
count_none test (s ∷ ss) = count_none test ss

-- no more pass than there are
pub count_within : (test : ℕ → Bool) (ss : List ℕ) → count test ss ≤ length ss
count_within test [] = omega arith
count_within test (s ∷ ss) = by (test s) (count_within test ss)
  where
    by : (b : Bool) → count test ss ≤ length ss → cond b (count test ss + 1) (count test ss) ≤ length (s ∷ ss)
    by true l = omega arith
    by false l = omega arith

rises_rest : (s : ℕ) (ss : List ℕ) → Rises (s ∷ ss) → Rises ss
rises_rest s ss r k l = r (suc k) (omega arith)

-- the first of them comes no second time
once : (n s : ℕ) (ss : List ℕ) → Rises (s ∷ ss) → n ≡ s → has n ss ≡ true → ⊥
once n s ss r e h =
    let f = found n ss h in
    let at : get_or ss f.0 0 ≡ n = f.2 in
    let l = rising (s ∷ ss) r 0 (suc f.0) (omega arith) (let m = f.1 in omega arith) in
    absurd (omega arith)

-- a number that is not among them changes nothing
pub count_apart : (D T : ℕ → Bool) (n : ℕ) (ss : List ℕ) → has n ss ≡ false → count (λ s. with_number D n s && T s) ss ≡ count (λ s. D s && T s) ss
count_apart D T n ss out = count_same (λ s. D s && T s) (λ s. with_number D n s && T s) ss (λ m h. elim (eqb_tells m n) [
  | inl t ↦ absurd (let z : has m ss ≡ has n ss = ap (λ k. has k ss) t.1 in cc)
  | inr t ↦ rw (t.0) refl
])

-- nor does one that fails the test
pub count_failing : (D T : ℕ → Bool) (n : ℕ) (ss : List ℕ) → T n ≡ false → count (λ s. with_number D n s && T s) ss ≡ count (λ s. D s && T s) ss
count_failing D T n ss off = count_same (λ s. D s && T s) (λ s. with_number D n s && T s) ss (λ m h. elim (eqb_tells m n) [
  | inl t ↦ rw (t.0, t.1, off) (neither (D n))
  | inr t ↦ rw (t.0) refl
])
  where
    neither : (b : Bool) → false ≡ (b && false)
    neither true = refl
    neither false = refl

-- if a number is among them, was not finished and passes, the count grows by 1
pub count_one : (D T : ℕ → Bool) (n : ℕ) (ss : List ℕ) → Rises ss → has n ss ≡ true → D n ≡ false → T n ≡ true → count (λ s. with_number D n s && T s) ss ≡ count (λ s. D s && T s) ss + 1
count_one D T n [] r h off on = absurd cc
count_one D T n (s ∷ ss) r h off on = elim (eqb_tells n s) [
  | inl t ↦ first t.1 (has n ss) refl
  | inr t ↦ later t.0 (λ e. t.1 (sym e)) (λ a. count_one D T n ss (rises_rest s ss r) a off on)
]
  where
    E : ℕ → Bool
    E m = with_number D n m && T m

    F : ℕ → Bool
    F m = D m && T m

    first : n ≡ s → (b : Bool) → has n ss ≡ b → count E (s ∷ ss) ≡ count F (s ∷ ss) + 1
    first e true is = absurd (once n s ss r e is)
    first e false out =
        let here : E s ≡ true = and_from (with_number D n s) (T s) (or_left (s == n) (D s) (eq-eqb s n (sym e))) (ap T (sym e) ∙ on) in
        let before : F s ≡ false = rw (← e, off) refl in
        let rest : count E ss ≡ count F ss = count_apart D T n ss out in
        ap (λ (b : Bool). cond b (count E ss + 1) (count E ss)) here ∙ ap (λ (k : ℕ). k + 1) rest ∙ sym (ap (λ (b : Bool). cond b (count F ss + 1) (count F ss) + 1) before)

    more : (b : Bool) → count E ss ≡ count F ss + 1 → cond b (count E ss + 1) (count E ss) ≡ cond b (count F ss + 1) (count F ss) + 1
    more true e = omega arith
    more false e = e

    later : (n == s) ≡ false → (s ≡ n → ⊥) → (has n ss ≡ true → count E ss ≡ count F ss + 1) → count E (s ∷ ss) ≡ count F (s ∷ ss) + 1
    later e ne rest =
        let among : has n ss ≡ true = (let g : ((n == s) || has n ss) ≡ true = h in rw e at g) in
        let here : E s ≡ F s = elim (eqb_tells s n) [ inl t ↦ absurd (ne t.1) | inr t ↦ rw (t.0) refl ] in
        ap (λ (b : Bool). cond b (count E ss + 1) (count E ss)) here ∙ more (F s) (rest among)
