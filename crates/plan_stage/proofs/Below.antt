-- The first test that fails, among clauses in order.
use Rattle.std.proofs.Common.{◌≡◌, ℕ, suc, zero, ◌+◌, ◌-◌, ◌<◌, Bool, true, false, cond, List, [], ◌∷◌, ◌++◌, refl, ◌∙◌, arith, add-one, below_more, Option, Some, None}
use Rattle.ring_names.specs.declared.refusal.Refusal.{Refusal}
use Rattle.plan_stage.specs.Clauses.{first_failing, below}

pub met : (b : Bool) (e : Refusal) (o : Option Refusal) → cond b o (Some e) ≡ None → (b ≡ true) × (o ≡ None)
met true e o h = (refl, h)
met false e o h = absurd cc

pub first-then : (cs ds : List (Bool × Refusal)) → first_failing cs ≡ None → first_failing (cs ++ ds) ≡ first_failing ds
first-then [] ds h = refl
first-then (c ∷ cs) ds h =
    let m = met c.0 c.1 (first_failing cs) h in
    rw (m.0, first-then cs ds m.1) refl

kept : (b : Bool) (e f : Refusal) (o p : Option Refusal) → cond b o (Some e) ≡ Some f → (o ≡ Some f → p ≡ Some f) → cond b p (Some e) ≡ Some f
kept true e f o p h k = k h
kept false e f o p h k = h

pub first-kept : (cs ds : List (Bool × Refusal)) (f : Refusal) → first_failing cs ≡ Some f → first_failing (cs ++ ds) ≡ Some f
first-kept [] ds f h = absurd cc
first-kept (c ∷ cs) ds f h = kept c.0 c.1 f (first_failing cs) (first_failing (cs ++ ds)) h (first-kept cs ds f)

pub below-none : (f : ℕ → List (Bool × Refusal)) → first_failing (below f 0) ≡ None
unfolding below
below-none f = refl

-- if the clauses of all numbers below n hold, those of n decide
pub below-then : (f : ℕ → List (Bool × Refusal)) (n : ℕ) → first_failing (below f n) ≡ None → first_failing (below f (n + 1)) ≡ first_failing (f n)
unfolding below
below-then f n h = rw add-one (first-then (below f n) (f n) h)

below-kept : (f : ℕ → List (Bool × Refusal)) (e : Refusal) (n m : ℕ) → first_failing (below f n) ≡ Some e → first_failing (below f (m + n)) ≡ Some e
unfolding below
below-kept f e n zero h = (let z : 0 + n ≡ n = omega arith in rw z h)
below-kept f e n (suc m) h =
    let s : suc m + n ≡ suc (m + n) = omega arith in
    rw s (first-kept (below f (m + n)) (f (m + n)) e (below-kept f e n m h))

-- the first clause that fails is the first of all
pub below-at : (f : ℕ → List (Bool × Refusal)) (e : Refusal) (k n : ℕ) → first_failing (below f k) ≡ None → k < n → first_failing (f k) ≡ Some e → first_failing (below f n) ≡ Some e
below-at f e k n h l here =
    let s : n - (k + 1) + (k + 1) ≡ n = omega arith in
    let g : first_failing (below f (k + 1)) ≡ Some e = below-then f k h ∙ here in
    let r = below-kept f e (k + 1) (n - (k + 1)) g in
    rw s at r

pub first-split : (cs ds : List (Bool × Refusal)) → first_failing (cs ++ ds) ≡ None → (first_failing cs ≡ None) × (first_failing ds ≡ None)
first-split [] ds h = (refl, h)
first-split (c ∷ cs) ds h =
    let m = met c.0 c.1 (first_failing (cs ++ ds)) h in
    let s = first-split cs ds m.1 in
    (rw (m.0, s.0) refl, s.1)

-- no clause fails exactly if none of any number fails
pub below-met : (f : ℕ → List (Bool × Refusal)) (n : ℕ) → first_failing (below f n) ≡ None → (k : ℕ) → k < n → first_failing (f k) ≡ None
unfolding below
below-met f zero h k l = absurd (omega arith)
below-met f (suc n) h k l =
    let s = first-split (below f n) (f n) h in
    (let l : k < n + 1 = omega arith in below_more (λ (i : ℕ). first_failing (f i) ≡ None) n (below-met f n s.0) s.1 k l)

pub below-all : (f : ℕ → List (Bool × Refusal)) (n : ℕ) → ((k : ℕ) → k < n → first_failing (f k) ≡ None) → first_failing (below f n) ≡ None
unfolding below
below-all f zero all = refl
below-all f (suc n) all =
    first-then (below f n) (f n) (below-all f n (λ k l. all k (omega arith))) ∙ all n (omega arith)
