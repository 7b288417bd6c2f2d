-- The latest of some puts, by its members.
use Rattle.std.proofs.Common.{◌≡◌, ◌⊎◌, inl, inr, ℕ, ◌+◌, ◌≤◌, Bool, true, false, not, cond, List, [], ◌∷◌, refl, arith, eqb-true, eq-eqb, ltb-true}
use Rattle.std.specs.Prelude.{◌&&◌, ◌==◌, nat_lt}
use Rattle.std.proofs.lemmas.Bool.Decides.{eqb_tells}
use Rattle.ring_names.specs.Lists.{has}
use Rattle.texts.specs.Numbers.{ascending}
use Rattle.std.proofs.lemmas.Bool.{and_parts, not-true, or_right, or_cases, or_left}
use Rattle.plan_runs.specs.World.{World}
use Rattle.plan_runs.specs.Succession.{Succeeds, succeeds, some_succeeds, latest_of, latest}
use Rattle.plan_runs.proofs.Succeeding.{succeeds_is, is_succeeds}
use Rattle.plan_runs.proofs.Passing.{StartsAt, with_first}
use Rattle.plan_text.proofs.Searched.{ascends-tail}

-- ---- another one of them succeeds the put

pub some_succeeds_found : (w : World) (v : ℕ) (us : List ℕ) → some_succeeds w v us ≡ true → (u : ℕ) × (has u us ≡ true) × ((u == v) ≡ false) × Succeeds w u v
some_succeeds_found w v [] h = absurd cc
some_succeeds_found w v (u ∷ us) h = elim (or_cases (not (u == v) && succeeds w u v) (some_succeeds w v us) h) [
  | inl f ↦ (let b = and_parts (not (u == v)) (succeeds w u v) f in (u, rw (eq-eqb u u refl) refl, not-true (u == v) b.0, succeeds_is w u v b.1))
  | inr f ↦ (let r = some_succeeds_found w v us f in (r.0, or_right (r.0 == u) (has r.0 us) r.1, r.2, r.3))
]

pub some_succeeds_is : (w : World) (v u : ℕ) (us : List ℕ) → has u us ≡ true → (u == v) ≡ false → Succeeds w u v → some_succeeds w v us ≡ true
some_succeeds_is w v u [] h ne s = absurd cc
some_succeeds_is w v u (x ∷ us) h ne s = elim (eqb_tells u x) [
  | inl t ↦ or_left (not (x == v) && succeeds w x v) (some_succeeds w v us) (rw (← t.1) (rw (ne, is_succeeds w u v s) refl))
  | inr t ↦ or_right (not (x == v) && succeeds w x v) (some_succeeds w v us) (some_succeeds_is w v u us (rw t.0 at h) ne s)
]

-- ---- the members

pub latest_of_is : (w : World) (all vs : List ℕ) (v : ℕ) → has v (latest_of w all vs) ≡ true → (has v vs ≡ true) × (some_succeeds w v all ≡ false)
latest_of_is w all [] v h = absurd cc
latest_of_is w all (x ∷ vs) v h = by (some_succeeds w x all) refl h (λ g. latest_of_is w all vs v g)
  where
    by : (b : Bool) → some_succeeds w x all ≡ b → has v (cond b (latest_of w all vs) (x ∷ latest_of w all vs)) ≡ true
        → (has v (latest_of w all vs) ≡ true → (has v vs ≡ true) × (some_succeeds w v all ≡ false)) → (has v (x ∷ vs) ≡ true) × (some_succeeds w v all ≡ false)
    by true e g later = (let r = later g in (or_right (v == x) (has v vs) r.0, r.1))
    by false e g later = elim (or_cases (v == x) (has v (latest_of w all vs)) g) [
      | inl f ↦ (let s = eqb-true v x f in (or_left (v == x) (has v vs) f, rw s e))
      | inr f ↦ (let r = later f in (or_right (v == x) (has v vs) r.0, r.1))
    ]

pub is_latest_of : (w : World) (all vs : List ℕ) (v : ℕ) → has v vs ≡ true → some_succeeds w v all ≡ false → has v (latest_of w all vs) ≡ true
is_latest_of w all [] v h n = absurd cc
is_latest_of w all (x ∷ vs) v h n = by (some_succeeds w x all) refl (or_cases (v == x) (has v vs) h) (λ g. is_latest_of w all vs v g n)
  where
    by : (b : Bool) → some_succeeds w x all ≡ b → ((v == x) ≡ true) ⊎ (has v vs ≡ true) → (has v vs ≡ true → has v (latest_of w all vs) ≡ true) → has v (cond b (latest_of w all vs) (x ∷ latest_of w all vs)) ≡ true
    by true e (inl f) later = absurd (let s = eqb-true v x f in let g = rw s at n in cc)
    by true e (inr f) later = later f
    by false e (inl f) later = or_left (v == x) (has v (latest_of w all vs)) f
    by false e (inr f) later = or_right (v == x) (has v (latest_of w all vs)) (later f)

-- a put is among the latest if the puts have it and no other of them succeeds it
pub latest_is : (w : World) (vs : List ℕ) (v : ℕ) → has v (latest w vs) ≡ true → (has v vs ≡ true) × ((u : ℕ) → has u vs ≡ true → (u == v) ≡ false → Succeeds w u v → ⊥)
latest_is w vs v h =
    let r = latest_of_is w vs vs v h in
    (r.0, λ u e ne s. (let g = some_succeeds_is w v u vs e ne s in let f = r.1 in absurd cc))

pub is_latest : (w : World) (vs : List ℕ) (v : ℕ) → has v vs ≡ true → ((u : ℕ) → has u vs ≡ true → (u == v) ≡ false → Succeeds w u v → ⊥) → has v (latest w vs) ≡ true
is_latest w vs v h none = is_latest_of w vs vs v h (by (some_succeeds w v vs) refl)
  where
    by : (b : Bool) → some_succeeds w v vs ≡ b → b ≡ false
    by false e = refl
    by true e = absurd (let r = some_succeeds_found w v vs e in none r.0 r.1 r.2 r.3)

-- ---- they ascend where the puts do

starts_latest : (w : World) (all vs : List ℕ) (k : ℕ) → StartsAt k vs → ascending vs ≡ true → StartsAt k (latest_of w all vs)
starts_latest w all [] k s a = tt
starts_latest w all (x ∷ vs) k s a = by (some_succeeds w x all) (starts_latest w all vs k (later vs s a) (ascends-tail x vs a))
  where
    later : (ys : List ℕ) → k ≤ x → ascending (x ∷ ys) ≡ true → StartsAt k ys
    later [] l h = tt
    later (y ∷ ys) l h = (let b = ltb-true x y (and_parts (nat_lt x y) (ascending (y ∷ ys)) h).0 in omega arith)

    by : (b : Bool) → StartsAt k (latest_of w all vs) → StartsAt k (cond b (latest_of w all vs) (x ∷ latest_of w all vs))
    by true h = h
    by false h = s

pub latest_ascend : (w : World) (all vs : List ℕ) → ascending vs ≡ true → ascending (latest_of w all vs) ≡ true
latest_ascend w all [] a = refl
latest_ascend w all (x ∷ vs) a = by (some_succeeds w x all) (latest_ascend w all vs (ascends-tail x vs a))
  where
    later : (ys : List ℕ) → ascending (x ∷ ys) ≡ true → StartsAt (x + 1) ys
    later [] h = tt
    later (y ∷ ys) h = (let b = ltb-true x y (and_parts (nat_lt x y) (ascending (y ∷ ys)) h).0 in omega arith)

    by : (b : Bool) → ascending (latest_of w all vs) ≡ true → ascending (cond b (latest_of w all vs) (x ∷ latest_of w all vs)) ≡ true
    by true h = h
    by false h = with_first x (latest_of w all vs) (starts_latest w all vs (x + 1) (later vs a) (ascends-tail x vs a)) h
