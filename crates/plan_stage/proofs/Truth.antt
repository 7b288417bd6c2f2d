-- What tests over lists, steps and numbers say.
use Rattle.std.proofs.Common.{◌≡◌, inl, inr, ℕ, suc, zero, ◌+◌, ◌<◌, Bool, true, false, not, cond, List, [], ◌∷◌, ◌++◌, refl, ap, ◌∙◌, arith, below_more, Option, Some, None}
use Rattle.std.specs.Prelude.{◌||◌, ◌==◌}
use Rattle.std.specs.List.{list_all}
use Rattle.std.proofs.lemmas.Bool.{eqb-true, eq-eqb, and_parts, or_right, and_from, or_cases as either, or_left as first_of_two}
use Rattle.ring_names.specs.Lists.{has}
use Rattle.ring_names.specs.declared.ids.NodeId.{NodeId}
use Rattle.ring_names.specs.declared.ids.Slot.{Slot}
use Rattle.ring_names.specs.declared.refusal.Refusal.{Refusal}
use Rattle.ring_names.proofs.Logic.{plus_suc, zero_plus}
use Rattle.plan_text.specs.declared.step.Step.{Step}
use Rattle.plan_text.specs.declared.step.Planned.{Planned}
use Rattle.plan_text.specs.Steps.{is_slot}
use Rattle.plan_stage.specs.Clauses.{first_failing, Guard}
use Rattle.plan_stage.specs.Occupancy.{is_node}
use Rattle.plan_stage.proofs.Below.{met}
use Rattle.plan_stage.specs.Each.{some_step, step_at, each_step, each_below}
use Rattle.plan_stage.specs.Partition.{steps_clauses}

-- ---- truth values

-- a test that is asked for only if another holds
pub where_asked : (a b : Bool) → (not a || b) ≡ true → a ≡ true → b ≡ true
where_asked true b h k = h
where_asked false b h k = absurd cc

pub if_asked : (a b : Bool) → (a ≡ true → b ≡ true) → (not a || b) ≡ true
if_asked true b h = h refl
if_asked false b h = refl

-- ---- tests in order

pub push : (b : Bool) (e : Refusal) (o : Option Refusal) → b ≡ true → o ≡ None → cond b o (Some e) ≡ None
push b e o h k = rw (h, k) refl

pub two-met : (a b : Bool) (e f : Refusal) → first_failing ((a, e) ∷ (b, f) ∷ []) ≡ None → (a ≡ true) × (b ≡ true)
two-met a b e f h =
    let m = met a e (cond b None (Some f)) h in
    (m.0, (met b f None m.1).0)

pub two-all : (a b : Bool) (e f : Refusal) → a ≡ true → b ≡ true → first_failing ((a, e) ∷ (b, f) ∷ []) ≡ None
two-all a b e f h k = rw (h, k) refl

pub parted : (cs ds : List Guard) → first_failing (cs ++ ds) ≡ None → (first_failing cs ≡ None) × (first_failing ds ≡ None)
parted [] ds h = (refl, h)
parted (c ∷ cs) ds h =
    let m = met c.0 c.1 (first_failing (cs ++ ds)) h in
    let s = parted cs ds m.1 in
    (push c.0 c.1 (first_failing cs) m.0 s.0, s.1)

pub together : (cs ds : List Guard) → first_failing cs ≡ None → first_failing ds ≡ None → first_failing (cs ++ ds) ≡ None
together [] ds h k = k
together (c ∷ cs) ds h k =
    let m = met c.0 c.1 (first_failing cs) h in
    push c.0 c.1 (first_failing (cs ++ ds)) m.0 (together cs ds m.1 k)

-- tests that are asked for only if another holds
pub asked-met : (a : Bool) (cs : List Guard) → first_failing (cond a cs []) ≡ None → a ≡ true → first_failing cs ≡ None
asked-met true cs h k = h
asked-met false cs h k = absurd cc

pub asked-all : (a : Bool) (cs : List Guard) → (a ≡ true → first_failing cs ≡ None) → first_failing (cond a cs []) ≡ None
asked-all true cs h = h refl
asked-all false cs h = refl

-- ---- tests over steps

pub steps-met : (f : ℕ → Step → List Guard) (n : ℕ) (plan : List Planned) → first_failing (steps_clauses f n plan) ≡ None → (m : ℕ) (s : Step) → step_at plan m ≡ Some s → first_failing (f (n + m) s) ≡ None
steps-met f n [] h m s at = absurd cc
steps-met f n (x ∷ xs) h zero s at =
    let e : x.step ≡ s = cc in
    let z : n + 0 ≡ n = omega arith in
    rw (z, ← e) (parted (f n x.step) (steps_clauses f (n + 1) xs) h).0
steps-met f n (x ∷ xs) h (suc m) s at =
    rw (← plus_suc n m) (steps-met f (n + 1) xs (parted (f n x.step) (steps_clauses f (n + 1) xs) h).1 m s at)

pub steps-all : (f : ℕ → Step → List Guard) (n : ℕ) (plan : List Planned) → ((m : ℕ) (s : Step) → step_at plan m ≡ Some s → first_failing (f (n + m) s) ≡ None) → first_failing (steps_clauses f n plan) ≡ None
steps-all f n [] all = refl
steps-all f n (x ∷ xs) all =
    let z : n + 0 ≡ n = omega arith in
    let here : first_failing (f n x.step) ≡ None = rw z at (all 0 x.step refl) in
    together (f n x.step) (steps_clauses f (n + 1) xs) here (steps-all f (n + 1) xs (λ m s at. rw (plus_suc n m) (all (suc m) s at)))

pub each_step-met : (f : ℕ → Step → Bool) (n : ℕ) (plan : List Planned) → each_step f n plan ≡ true → (m : ℕ) (s : Step) → step_at plan m ≡ Some s → f (n + m) s ≡ true
each_step-met f n [] h m s at = absurd cc
each_step-met f n (x ∷ xs) h zero s at =
    let e : x.step ≡ s = cc in
    let z : n + 0 ≡ n = omega arith in
    rw (z, ← e) (and_parts (f n x.step) (each_step f (n + 1) xs) h).0
each_step-met f n (x ∷ xs) h (suc m) s at =
    rw (← plus_suc n m) (each_step-met f (n + 1) xs (and_parts (f n x.step) (each_step f (n + 1) xs) h).1 m s at)

pub each_step-all : (f : ℕ → Step → Bool) (n : ℕ) (plan : List Planned) → ((m : ℕ) (s : Step) → step_at plan m ≡ Some s → f (n + m) s ≡ true) → each_step f n plan ≡ true
each_step-all f n [] all = refl
each_step-all f n (x ∷ xs) all =
    let z : n + 0 ≡ n = omega arith in
    let here : f n x.step ≡ true = rw z at (all 0 x.step refl) in
    and_from (f n x.step) (each_step f (n + 1) xs) here (each_step-all f (n + 1) xs (λ m s at. rw (plus_suc n m) (all (suc m) s at)))

pub some_step-met : (f : ℕ → Step → Bool) (n : ℕ) (plan : List Planned) → some_step f n plan ≡ true → (m : ℕ) × (s : Step) × (step_at plan m ≡ Some s) × (f (n + m) s ≡ true)
some_step-met f n [] h = absurd cc
some_step-met f n (x ∷ xs) h = elim (either (f n x.step) (some_step f (n + 1) xs) h) [
  | inl here ↦ (let z : n + 0 ≡ n = omega arith in (0, x.step, refl, rw z here))
  | inr there ↦ (let r = some_step-met f (n + 1) xs there in (suc r.0, r.1, r.2, rw (← plus_suc n r.0) r.3))
]

pub some_step-all : (f : ℕ → Step → Bool) (n : ℕ) (plan : List Planned) (m : ℕ) (s : Step) → step_at plan m ≡ Some s → f (n + m) s ≡ true → some_step f n plan ≡ true
some_step-all f n [] m s at h = absurd cc
some_step-all f n (x ∷ xs) zero s at h =
    let e : x.step ≡ s = cc in
    let z : n + 0 ≡ n = omega arith in
    let here : f n x.step ≡ true = rw (e, ← z) h in
    first_of_two (f n x.step) (some_step f (n + 1) xs) here
some_step-all f n (x ∷ xs) (suc m) s at h =
    or_right (f n x.step) (some_step f (n + 1) xs) (some_step-all f (n + 1) xs m s at (rw (plus_suc n m) h))

pub clauses-met : (f : ℕ → Step → List Guard) (plan : List Planned) → first_failing (steps_clauses f 0 plan) ≡ None → (m : ℕ) (s : Step) → step_at plan m ≡ Some s → first_failing (f m s) ≡ None
clauses-met f plan h m s at = rw (← zero_plus m) (steps-met f 0 plan h m s at)

pub clauses-all : (f : ℕ → Step → List Guard) (plan : List Planned) → ((m : ℕ) (s : Step) → step_at plan m ≡ Some s → first_failing (f m s) ≡ None) → first_failing (steps_clauses f 0 plan) ≡ None
clauses-all f plan all = steps-all f 0 plan (λ m s at. rw (zero_plus m) (all m s at))

pub each-met : (f : ℕ → Step → Bool) (plan : List Planned) → each_step f 0 plan ≡ true → (m : ℕ) (s : Step) → step_at plan m ≡ Some s → f m s ≡ true
each-met f plan h m s at = rw (← zero_plus m) (each_step-met f 0 plan h m s at)

pub each-all : (f : ℕ → Step → Bool) (plan : List Planned) → ((m : ℕ) (s : Step) → step_at plan m ≡ Some s → f m s ≡ true) → each_step f 0 plan ≡ true
each-all f plan all = each_step-all f 0 plan (λ m s at. rw (zero_plus m) (all m s at))

pub some-met : (f : ℕ → Step → Bool) (plan : List Planned) → some_step f 0 plan ≡ true → (m : ℕ) × (s : Step) × (step_at plan m ≡ Some s) × (f m s ≡ true)
some-met f plan h = (let r = some_step-met f 0 plan h in (r.0, r.1, r.2, rw (zero_plus r.0) at r.3))

pub some-all : (f : ℕ → Step → Bool) (plan : List Planned) (m : ℕ) (s : Step) → step_at plan m ≡ Some s → f m s ≡ true → some_step f 0 plan ≡ true
some-all f plan m s at h = some_step-all f 0 plan m s at (rw (zero_plus m) h)

-- ---- tests over numbers

pub each_below-met : (f : ℕ → Bool) (n : ℕ) → each_below n f ≡ true → (k : ℕ) → k < n → f k ≡ true
each_below-met f zero h k l = absurd (omega arith)
each_below-met f (suc n) h k l =
    let s = and_parts (each_below n f) (f n) h in
    (let l : k < n + 1 = omega arith in below_more (λ (i : ℕ). f i ≡ true) n (each_below-met f n s.0) s.1 k l)

pub each_below-all : (f : ℕ → Bool) (n : ℕ) → ((k : ℕ) → k < n → f k ≡ true) → each_below n f ≡ true
each_below-all f zero all = refl
each_below-all f (suc n) all = and_from (each_below n f) (f n) (each_below-all f n (λ k l. all k (omega arith))) (all n (omega arith))

pub same : (a : ℕ) → (a == a) ≡ true
same a = eq-eqb a a refl

pub list_all-met : (f : ℕ → Bool) (xs : List ℕ) → list_all f xs ≡ true → (j : ℕ) → has j xs ≡ true → f j ≡ true
list_all-met f [] h j is = absurd cc
list_all-met f (x ∷ xs) h j is =
    let b = and_parts (f x) (list_all f xs) h in
    elim (either (j == x) (has j xs) is) [ inl here ↦ (let e : j ≡ x = eqb-true j x here in rw e b.0) | inr there ↦ list_all-met f xs b.1 j there ]

pub list_all-all : (f : ℕ → Bool) (xs : List ℕ) → ((j : ℕ) → has j xs ≡ true → f j ≡ true) → list_all f xs ≡ true
list_all-all f [] all = refl
list_all-all f (x ∷ xs) all =
    and_from (f x) (list_all f xs) (all x (first_of_two (x == x) (has x xs) (same x))) (list_all-all f xs (λ j is. all j (or_right (j == x) (has j xs) is)))

-- ---- equal slots, equal nodes

pub slot-is : (s t : Slot) → is_slot s t ≡ true → s ≡ t
slot-is s t h =
    let b = and_parts (s.partition == t.partition) (s.index == t.index) h in
    let p : s.partition ≡ t.partition = eqb-true s.partition t.partition b.0 in
    let i : s.index ≡ t.index = eqb-true s.index t.index b.1 in
    ap (λ (k : ℕ). record { partition = k; index = s.index }) p ∙ ap (λ (k : ℕ). record { partition = t.partition; index = k }) i

pub slot-same : (s : Slot) → is_slot s s ≡ true
slot-same s = and_from (s.partition == s.partition) (s.index == s.index) (same s.partition) (same s.index)

pub node-is : (x y : NodeId) → is_node x y ≡ true → x ≡ y
node-is x y h =
    let e : x.0 ≡ y.0 = eqb-true x.0 y.0 h in
    ap (λ (k : ℕ). record { 0 = k }) e

pub node-same : (x : NodeId) → is_node x x ≡ true
node-same x = same x.0
