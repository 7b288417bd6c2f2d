-- Ascending numbers, and those below a bound that pass a test.
use Rattle.std.proofs.Common.{◌≡◌, ◌⊎◌, inl, inr, ℕ, zero, suc, ◌+◌, ◌<◌, ◌≤◌, Bool, true, false, cond, List, [], ◌∷◌, length, get_or, refl, subst, arith, lt-ltb, eqb-true, eq-eqb}
use Rattle.std.specs.Prelude.{◌==◌, nat_lt}
use Rattle.std.proofs.lemmas.Bool.Decides.{eqb_tells}
use Rattle.ring_names.specs.Lists.{has, all_different}
use Rattle.texts.specs.Numbers.{ascending}
use Rattle.std.proofs.lemmas.Bool.{or_right, and_from, or_cases as either}
use Rattle.plan_runs.specs.World.{some_below, passing_from, passing_below}
use Rattle.plan_stage.proofs.Looking.{ascends-below}
use Rattle.plan_text.proofs.Searched.{ascends-tail}

-- ---- some number below n

pub some_found : (n : ℕ) (test : ℕ → Bool) → some_below n test ≡ true → (v : ℕ) × (v < n) × (test v ≡ true)
some_found zero test h = absurd cc
some_found (suc n) test h = elim (either (some_below n test) (test n) h) [
  | inl f ↦ (let g = some_found n test f in (g.0, omega arith, g.2))
  | inr f ↦ (n, omega arith, f)
]

pub some_is : (n : ℕ) (test : ℕ → Bool) (v : ℕ) → v < n → test v ≡ true → some_below n test ≡ true
some_is zero test v l e = absurd (omega arith)
some_is (suc n) test v l e = elim (eqb_tells v n) [
  | inl t ↦ or_right (some_below n test) (test n) (subst (λ m. test m ≡ true) t.1 e)
  | inr t ↦ (let f = some_is n test v (let g = t.1 in omega arith) e in rw f refl)
]

-- ---- the members

pub passes : (k n : ℕ) (test : ℕ → Bool) (m : ℕ) → has m (passing_from k n test) ≡ true → (k ≤ m) × (m < k + n) × (test m ≡ true)
passes k zero test m h = absurd cc
passes k (suc n) test m h = by (test k) refl h (λ g. (let r = passes (k + 1) n test m g in let l = r.0 in let t = r.1 in (omega arith, omega arith, r.2)))
  where
    by : (b : Bool) → test k ≡ b → has m (cond b (k ∷ passing_from (k + 1) n test) (passing_from (k + 1) n test)) ≡ true → (has m (passing_from (k + 1) n test) ≡ true → (k ≤ m) × (m < k + suc n) × (test m ≡ true)) → (k ≤ m) × (m < k + suc n) × (test m ≡ true)
    by false e g later = later g
    by true e g later = elim (either (m == k) (has m (passing_from (k + 1) n test)) g) [
      | inl f ↦ (let s = eqb-true m k f in (omega arith, omega arith, rw s e))
      | inr f ↦ later f
    ]

pub passing : (k n : ℕ) (test : ℕ → Bool) (m : ℕ) → k ≤ m → m < k + n → test m ≡ true → has m (passing_from k n test) ≡ true
passing k zero test m l r t = absurd (omega arith)
passing k (suc n) test m l r t = elim (eqb_tells m k) [
  | inl f ↦ (let e : test k ≡ true = subst (λ z. test z ≡ true) f.1 t in rw (e, f.0) refl)
  | inr f ↦ by (test k) (passing (k + 1) n test m (let ne = f.1 in omega arith) (omega arith) t)
]
  where
    by : (b : Bool) → has m (passing_from (k + 1) n test) ≡ true → has m (cond b (k ∷ passing_from (k + 1) n test) (passing_from (k + 1) n test)) ≡ true
    by false h = h
    by true h = or_right (m == k) (has m (passing_from (k + 1) n test)) h

-- a number is among those below n that pass if it is below n and passes
pub below_is : (n : ℕ) (test : ℕ → Bool) (m : ℕ) → has m (passing_below n test) ≡ true → (m < n) × (test m ≡ true)
below_is n test m h = (let r = passes 0 n test m h in let l = r.1 in (omega arith, r.2))

pub is_below : (n : ℕ) (test : ℕ → Bool) (m : ℕ) → m < n → test m ≡ true → has m (passing_below n test) ≡ true
is_below n test m l t = passing 0 n test m (omega arith) (omega arith) t

-- ---- they ascend

-- the first of them, if there is one, is k or more
abbrev pub StartsAt : ℕ → List ℕ → Type 0
StartsAt k [] = Unit {0}
StartsAt k (x ∷ xs) = k ≤ x

pub starts : (k n : ℕ) (test : ℕ → Bool) → StartsAt k (passing_from k n test)
starts k zero test = tt
starts k (suc n) test = by (test k) (starts (k + 1) n test)
  where
    less : (xs : List ℕ) → StartsAt (k + 1) xs → StartsAt k xs
    less [] h = tt
    less (x ∷ xs) h = omega arith

    by : (b : Bool) → StartsAt (k + 1) (passing_from (k + 1) n test) → StartsAt k (cond b (k ∷ passing_from (k + 1) n test) (passing_from (k + 1) n test))
    by false h = less (passing_from (k + 1) n test) h
    by true h = omega arith

pub with_first : (k : ℕ) (xs : List ℕ) → StartsAt (k + 1) xs → ascending xs ≡ true → ascending (k ∷ xs) ≡ true
with_first k [] s h = refl
with_first k (x ∷ xs) s h = and_from (nat_lt k x) (ascending (x ∷ xs)) (lt-ltb k x (omega arith)) h

pub passing_ascend : (k n : ℕ) (test : ℕ → Bool) → ascending (passing_from k n test) ≡ true
passing_ascend k zero test = refl
passing_ascend k (suc n) test = by (test k) (passing_ascend (k + 1) n test)
  where
    by : (b : Bool) → ascending (passing_from (k + 1) n test) ≡ true → ascending (cond b (k ∷ passing_from (k + 1) n test) (passing_from (k + 1) n test)) ≡ true
    by false h = h
    by true h = with_first k (passing_from (k + 1) n test) (starts (k + 1) n test) h

pub at_place : (xs : List ℕ) (n : ℕ) → n < length xs → has (get_or xs n 0) xs ≡ true
at_place [] n l = absurd (omega arith)
at_place (x ∷ xs) zero l = rw (eq-eqb x x refl) refl
at_place (x ∷ xs) (suc n) l = or_right (get_or xs n 0 == x) (has (get_or xs n 0) xs) (at_place xs n (omega arith))

pub none_twice : (xs : List ℕ) → ascending xs ≡ true → all_different xs ≡ true
none_twice [] h = refl
none_twice (x ∷ xs) h = by (has x xs) refl (none_twice xs (ascends-tail x xs h))
  where
    by : (b : Bool) → has x xs ≡ b → all_different xs ≡ true → all_different (x ∷ xs) ≡ true
    by true e r = absurd (let l = ascends-below x xs h x e in omega arith)
    by false e r = rw (e, r) refl
