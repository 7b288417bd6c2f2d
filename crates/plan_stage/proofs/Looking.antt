-- The clauses of the steps that are looked at fail first where those of all steps do.
use Rattle.std.proofs.Common.{◌≡◌, ◌⊎◌, inl, inr, ◌∙◌, ℕ, suc, ◌+◌, ◌<◌, ◌≤◌, ◌≢◌, Bool, true, false, not, List, [], ◌∷◌, ◌++◌, length, refl, sym, ap, subst, eq-eqb, arith, Option, Some, None}
use Rattle.std.specs.Prelude.{◌||◌, ◌&&◌, ◌==◌, nat_lt}
use Rattle.std.specs.List.{list_all}
use Rattle.std.proofs.lemmas.Bool.{eqb-true, ltb-true, and_parts, or_right, and_from, or_cases as either, or_left}
use Rattle.ring_names.specs.Lists.{has}
use Rattle.ring_names.specs.declared.ids.NodeId.{NodeId}
use Rattle.ring_names.specs.declared.ids.Slot.{Slot}
use Rattle.ring_names.specs.declared.refusal.Refusal.{Refusal}
use Rattle.ring_names.proofs.Logic.{plus_suc}
use Rattle.ring_table.specs.Value.{RingValue}
use Rattle.plan_text.specs.declared.step.Step.{Step}
use Rattle.plan_text.specs.declared.step.Step.TheVariants.{Join, Mirror, Copy, Switch, Drop, Retire}
use Rattle.plan_text.specs.declared.step.Source.TheVariants.{Owner, Slots}
use Rattle.plan_text.specs.declared.step.Planned.{Planned}
use Rattle.texts.specs.Numbers.{ascending}
use Rattle.plan_stage.specs.Clauses.{Guard, first_failing}
use Rattle.plan_stage.specs.Occupancy.{first_drop, mirror_drop}
use Rattle.plan_stage.specs.Each.{step_at, each_step, is_mirror_of, owns_first, slot_in, place_in}
use Rattle.plan_stage.specs.Partition.{Test, ends_before, has_dropped, step_clauses, steps_clauses}
use Rattle.plan_stage.specs.Holdings.{is_holder}
use Rattle.plan_stage.specs.Looking.Concerned.{is_concerned, AreConcerned}
use Rattle.plan_stage.specs.Looking.Looked.{clauses_at, clauses_of}
use Rattle.plan_stage.proofs.Below.{first-then, first-kept}
use Rattle.plan_stage.proofs.Truth.{same, if_asked, each-all, each_below-all, list_all-met}
use Rattle.plan_stage.proofs.Holders.{told, IsFree, no-holder}
use Rattle.plan_text.proofs.Searched.{ascends-tail}

-- ---- in general

pub front-same : (cs ds es : List Guard) → first_failing ds ≡ first_failing es → first_failing (cs ++ ds) ≡ first_failing (cs ++ es)
front-same [] ds es e = e
front-same (c ∷ cs) ds es e = rw (front-same cs ds es e) refl

-- the first of ascending numbers is below the others
pub ascends-below : (n : ℕ) (ns : List ℕ) → ascending (n ∷ ns) ≡ true → (j : ℕ) → has j ns ≡ true → n < j
ascends-below n [] h j is = absurd cc
ascends-below n (m ∷ ms) h j is =
    let b = and_parts (nat_lt n m) (ascending (m ∷ ms)) h in
    let l : n < m = ltb-true n m b.0 in
    elim (either (j == m) (has j ms) is) [
      | inl here ↦ (let e : j ≡ m = eqb-true j m here in rw e l)
      | inr there ↦ (let g : m < j = ascends-below m ms b.1 j there in omega arith)
    ]

abbrev Has : List ℕ → ℕ → Type 0
Has xs m = has m xs ≡ true

-- what is after the first, where the first ones are equal
after : (x : ℕ) (xs ys : List ℕ) → ascending (x ∷ xs) ≡ true → ((m : ℕ) → Has (x ∷ xs) m → Has (x ∷ ys) m) → (m : ℕ) → Has xs m → Has ys m
after x xs ys h f m e = elim (either (m == x) (has m ys) (f m (or_right (m == x) (has m xs) e))) [
  | inl s ↦ absurd (let l = ascends-below x xs h m e in let i = eqb-true m x s in omega arith)
  | inr s ↦ s
]

-- two that ascend and have the same numbers are equal
pub same-numbers : (xs ys : List ℕ) → ascending xs ≡ true → ascending ys ≡ true → ((m : ℕ) → Has xs m → Has ys m) → ((m : ℕ) → Has ys m → Has xs m) → xs ≡ ys
same-numbers [] [] a b f g = refl
same-numbers [] (y ∷ ys) a b f g = absurd (let h = g y (rw (eq-eqb y y refl) refl) in cc)
same-numbers (x ∷ xs) [] a b f g = absurd (let h = f x (rw (eq-eqb x x refl) refl) in cc)
same-numbers (x ∷ xs) (y ∷ ys) a b f g =
    let here : Has (x ∷ xs) x = rw (eq-eqb x x refl) refl in
    let there : Has (y ∷ ys) y = rw (eq-eqb y y refl) refl in
    let e : x ≡ y = first_same (either (x == y) (has x ys) (f x here)) (either (y == x) (has y xs) (g y there)) in
    let c : ascending (x ∷ ys) ≡ true = subst (λ z. ascending (z ∷ ys) ≡ true) (sym e) b in
    let h : (m : ℕ) → Has (x ∷ xs) m → Has (x ∷ ys) m = λ m p. subst (λ z. Has (z ∷ ys) m) (sym e) (f m p) in
    let k : (m : ℕ) → Has (x ∷ ys) m → Has (x ∷ xs) m = λ m p. g m (subst (λ z. Has (z ∷ ys) m) e p) in
    let r : xs ≡ ys = same-numbers xs ys (ascends-tail x xs a) (ascends-tail y ys b) (after x xs ys a h) (after x ys xs c k) in
    rw (e, r) refl
  where
    first_same : ((x == y) ≡ true) ⊎ (has x ys ≡ true) → ((y == x) ≡ true) ⊎ (has y xs ≡ true) → x ≡ y
    first_same (inl s) t = eqb-true x y s
    first_same (inr s) (inl t) = sym (eqb-true y x t)
    first_same (inr s) (inr t) = absurd (let l = ascends-below y ys b x s in let m = ascends-below x xs a y t in omega arith)

-- the numbers are of steps from number k on, and the clauses of the other steps hold
pub record Covers (f : ℕ → Step → List Guard) (k : ℕ) (plan : List Planned) (numbers : List ℕ) : Type 0 where
  pub ascending : ascending numbers ≡ true
  pub low : (j : ℕ) → has j numbers ≡ true → k ≤ j
  pub high : (j : ℕ) → has j numbers ≡ true → j < k + length plan
  pub others : (m : ℕ) (s : Step) → step_at plan m ≡ Some s → has (k + m) numbers ≡ false → first_failing (f (k + m) s) ≡ None

nothing-left : (f : ℕ → Step → List Guard) (plan : List Planned) (k : ℕ) (numbers : List ℕ) → Covers f k [] numbers → first_failing (clauses_of f plan numbers) ≡ None
nothing-left f plan k [] c = refl
nothing-left f plan k (n ∷ ns) c =
    let is = or_left (n == n) (has n ns) (same n) in
    let l : k ≤ n = c.low n is in
    let h : n < k + 0 = c.high n is in
    absurd (omega arith)

-- a number that is not there is skipped
skipped : (f : ℕ → Step → List Guard) (k : ℕ) (x : Planned) (xs : List Planned) (numbers : List ℕ) → Covers f k (x ∷ xs) numbers → has k numbers ≡ false → Covers f (k + 1) xs numbers
skipped f k x xs numbers c out = record {
  ascending = c.ascending;
  low = λ j is. above j is (told (j == k));
  high = λ j is. (let l : j < k + length (x ∷ xs) = c.high j is in omega arith);
  others = λ m s at no. rw (plus_suc k m) (c.others (suc m) s at (rw (plus_suc k m) at no));
}
  where
    above : (j : ℕ) → has j numbers ≡ true → ((j == k) ≡ true) ⊎ ((j == k) ≡ false) → k + 1 ≤ j
    above j is (inl e) = absurd (let g : j ≡ k = eqb-true j k e in let i : has k numbers ≡ true = rw g at is in cc)
    above j is (inr d) = (let l : k ≤ j = c.low j is in let n : j ≢ k = λ e. (let t : (j == k) ≡ true = rw e (same k) in absurd cc) in omega arith)

-- the first number is taken
taken : (f : ℕ → Step → List Guard) (k : ℕ) (x : Planned) (xs : List Planned) (ns : List ℕ) → Covers f k (x ∷ xs) (k ∷ ns) → Covers f (k + 1) xs ns
taken f k x xs ns c = record {
  ascending = ascends-tail k ns c.ascending;
  low = λ j is. (let l : k < j = ascends-below k ns c.ascending j is in omega arith);
  high = λ j is. (let l : j < k + length (x ∷ xs) = c.high j (or_right (j == k) (has j ns) is) in omega arith);
  others = λ m s at no. rw (plus_suc k m) (c.others (suc m) s at (neither (k + suc m == k) (has (k + suc m) ns) (differs k m) (rw (plus_suc k m) at no)));
}
  where
    neither : (a b : Bool) → a ≡ false → b ≡ false → (a || b) ≡ false
    neither a b h k = rw (h, k) refl

    differs : (k m : ℕ) → (k + suc m == k) ≡ false
    differs k m = elim (told (k + suc m == k)) [ inl e ↦ absurd (let g : k + suc m ≡ k = eqb-true (k + suc m) k e in omega arith) | inr d ↦ d ]

-- a number that is there, and below all others, is the first
leads : (k : ℕ) (numbers : List ℕ) → ascending numbers ≡ true → ((j : ℕ) → has j numbers ≡ true → k ≤ j) → has k numbers ≡ true → (ns : List ℕ) × (numbers ≡ k ∷ ns)
leads k [] h low is = absurd cc
leads k (n ∷ ns) h low is = elim (either (k == n) (has k ns) is) [
  | inl here ↦ (ns, (let e : k ≡ n = eqb-true k n here in rw e refl))
  | inr there ↦ absurd (
      let l : n < k = ascends-below n ns h k there in
      let g : k ≤ n = low n (or_left (n == n) (has n ns) (same n)) in
      omega arith)
]

from : (f : ℕ → Step → List Guard) (plan : List Planned) (k : ℕ) (xs : List Planned) (numbers : List ℕ) → ((m : ℕ) → step_at plan (k + m) ≡ step_at xs m) → Covers f k xs numbers → first_failing (clauses_of f plan numbers) ≡ first_failing (steps_clauses f k xs)
from f plan k [] numbers tail c = nothing-left f plan k numbers c
from f plan k (x ∷ xs) numbers tail c =
    let z : k + 0 ≡ k = omega arith in
    let next : (m : ℕ) → step_at plan (k + 1 + m) ≡ step_at xs m = λ m. rw (plus_suc k m) (tail (suc m)) in
    elim (told (has k numbers)) [
      | inl is ↦ (
          let r = leads k numbers c.ascending c.low is in
          let at : step_at plan k ≡ Some x.step = rw z at (tail 0) in
          let d : Covers f k (x ∷ xs) (k ∷ r.0) = rw r.1 at c in
          rw (r.1, at, clauses_at) (front-same (f k x.step) (clauses_of f plan r.0) (steps_clauses f (k + 1) xs) (from f plan (k + 1) xs r.0 next (taken f k x xs r.0 d))))
      | inr out ↦ (
          let here : first_failing (f k x.step) ≡ None = rw z at (c.others 0 x.step refl (rw z out)) in
          from f plan (k + 1) xs numbers next (skipped f k x xs numbers c out) ∙ sym (first-then (f k x.step) (steps_clauses f (k + 1) xs) here))
    ]

-- where the clauses of all other steps hold, the first that fails is the first of all
pub looked-at : (f : ℕ → Step → List Guard) (plan : List Planned) (numbers : List ℕ) → ascending numbers ≡ true → list_all (λ n. nat_lt n (length plan)) numbers ≡ true → ((n : ℕ) (s : Step) → step_at plan n ≡ Some s → has n numbers ≡ false → first_failing (f n s) ≡ None) → first_failing (clauses_of f plan numbers) ≡ first_failing (steps_clauses f 0 plan)
looked-at f plan numbers asc within others =
    from f plan 0 plan numbers (λ m. rw (zero_more m) refl) (record {
      ascending = asc;
      low = λ j is. omega arith;
      high = λ j is. (let l : j < length plan = ltb-true j (length plan) (list_all-met (λ (n : ℕ). nat_lt n (length plan)) numbers within j is) in omega arith);
      others = λ m s at no. rw (zero_more m) (others m s at (rw (zero_more m) at no));
    })
  where
    zero_more : (m : ℕ) → 0 + m ≡ m
    zero_more m = omega arith

-- ---- the steps of a partition

abbrev first_dropped : RingValue → List Planned → Test → ℕ → Slot → NodeId → Bool
first_dropped ring plan O t s x = not (owns_first ring s x) || ends_before O (first_drop ring plan s) t

abbrev later_dropped : List Planned → Test → ℕ → Slot → NodeId → ℕ → Step → Bool
later_dropped plan O t s x b u = not (is_mirror_of s x u) || ends_before O (mirror_drop plan s (place_in plan s b) x) t

abbrev dropped_at : RingValue → List Planned → Test → ℕ → ℕ → NodeId → ℕ → Bool
dropped_at ring plan O p t x j = first_dropped ring plan O t (slot_in p j) x && each_step (later_dropped plan O t (slot_in p j) x) 0 plan

-- a node that holds no slot of the partition has dropped all that it held
pub dropped-all : (ring : RingValue) (plan : List Planned) (O : Test) (p t : ℕ) (x : NodeId) → is_holder ring plan p x ≡ false → has_dropped ring plan O p t x ≡ true
dropped-all ring plan O p t x none = each_below-all (dropped_at ring plan O p t x) ring.n (λ j l. at_slot j (no-holder ring plan p x none j l))
  where
    at_slot : (j : ℕ) → IsFree ring plan (slot_in p j) x → dropped_at ring plan O p t x j ≡ true
    at_slot j free =
        and_from (first_dropped ring plan O t (slot_in p j) x) (each_step (later_dropped plan O t (slot_in p j) x) 0 plan)
        (if_asked (owns_first ring (slot_in p j) x) (ends_before O (first_drop ring plan (slot_in p j)) t) (λ h. absurd (let f = free.owns in cc)))
        (each-all (later_dropped plan O t (slot_in p j) x) plan (λ b u at. if_asked (is_mirror_of (slot_in p j) x u) (ends_before O (mirror_drop plan (slot_in p j) (place_in plan (slot_in p j) b) x) t) (λ h. absurd (let f = free.mirrors b u at in cc))))

-- a step that is not concerned has no clause that fails
pub unconcerned : (ring : RingValue) (plan : List Planned) (O : Test) (p n : ℕ) (s : Step) → is_concerned ring plan p s ≡ false → first_failing (step_clauses ring plan O p n s) ≡ None
unconcerned ring plan O p n (Join x) h = refl
unconcerned ring plan O p n (Mirror slot x) h = rw h refl
unconcerned ring plan O p n (Copy slot Owner) h = refl
unconcerned ring plan O p n (Copy slot (Slots from)) h = rw h refl
unconcerned ring plan O p n (Switch slot) h = refl
unconcerned ring plan O p n (Drop slot x) h = refl
unconcerned ring plan O p n (Retire x) h = rw (dropped-all ring plan O p n x h) refl

-- so the steps that the partition has to look at are enough
pub concerned-enough : (ring : RingValue) (plan : List Planned) (p : ℕ) (numbers : List ℕ) → AreConcerned ring plan p numbers → (O : Test) → first_failing (clauses_of (step_clauses ring plan O p) plan numbers) ≡ first_failing (steps_clauses (step_clauses ring plan O p) 0 plan)
concerned-enough ring plan p numbers are O = looked-at (step_clauses ring plan O p) plan numbers are.ascending are.within (λ n s at out. unconcerned ring plan O p n s (outside n s at out (told (is_concerned ring plan p s))))
  where
    outside : (n : ℕ) (s : Step) → step_at plan n ≡ Some s → has n numbers ≡ false → (is_concerned ring plan p s ≡ true) ⊎ (is_concerned ring plan p s ≡ false) → is_concerned ring plan p s ≡ false
    outside n s at out (inl is) = absurd (let h = are.all n s at is in cc)
    outside n s at out (inr not_so) = not_so

-- ---- one step after the other

-- the clauses of the numbers that are left fail first where those of all do, and the first of them has one that fails
pub first-fails : (f : ℕ → Step → List Guard) (plan : List Planned) (n : ℕ) (rest later : List ℕ) (all : Option Refusal) (e : Refusal) → rest ≡ n ∷ later → first_failing (clauses_of f plan rest) ≡ all → first_failing (clauses_at f plan n) ≡ Some e → all ≡ Some e
first-fails f plan n rest later all e is so here =
    sym so ∙ ap (λ (ns : List ℕ). first_failing (clauses_of f plan ns)) is ∙ first-kept (clauses_at f plan n) (clauses_of f plan later) e here
