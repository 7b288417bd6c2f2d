-- Tests of the order of steps that agree everywhere give the same first refusal.
use Rattle.std.proofs.Common.{◌≡◌, ℕ, suc, zero, ◌+◌, ◌-◌, Bool, true, false, not, cond, List, [], ◌∷◌, ◌++◌, length, refl, ap, Option, Some, None}
use Rattle.std.specs.Prelude.{◌&&◌, ◌||◌, ◌==◌, nat_lt, slice_index}
use Rattle.ring_names.specs.declared.ids.NodeId.{NodeId}
use Rattle.ring_names.specs.declared.ids.Slot.{Slot}
use Rattle.ring_names.specs.declared.refusal.Refusal.{Refusal}
use Rattle.ring_table.specs.Value.{RingValue, is_member}
use Rattle.plan_text.specs.declared.step.Step.{Step}
use Rattle.plan_text.specs.declared.step.Step.TheVariants.{Join, Mirror, Copy, Switch, Drop, Retire}
use Rattle.plan_text.specs.declared.step.Source.TheVariants.{Owner, Slots}
use Rattle.plan_text.specs.declared.step.Planned.{Planned}
use Rattle.plan_text.specs.Steps.{steps_of, is_join_of}
use Rattle.plan_stage.specs.declared.stage.Stage.{Stage}
use Rattle.plan_stage.specs.Stage.{stage}
use Rattle.plan_stage.specs.Clauses.{Guard, first_failing, below}
use Rattle.plan_stage.specs.Occupancy.{first_end, mirror_end, first_drop, mirror_drop}
use Rattle.plan_stage.specs.Each.{some_step, each_step, each_below, is_switch_of, is_mirror_of, owns_first, sibling, place_in}
use Rattle.plan_stage.specs.Partition.{Test, ends_before, is_settled, has_left_slot, has_left, has_joined, has_dropped_slot, has_dropped, mirror_clauses, copy_clauses, step_clauses, steps_clauses, met_clauses, slot_step_clauses, slot_clauses, partition_clauses}
use Rattle.plan_stage.proofs.Asking.{all-same}

-- ---- clauses that fail first alike

-- the first refusal, or the second if there is none
abbrev or_later : Option Refusal → Option Refusal → Option Refusal
or_later None p = p
or_later (Some e) p = Some e

past : (b : Bool) (e : Refusal) (o p : Option Refusal) → cond b (or_later o p) (Some e) ≡ or_later (cond b o (Some e)) p
past true e o p = refl
past false e o p = refl

appended : (cs ds : List Guard) → first_failing (cs ++ ds) ≡ or_later (first_failing cs) (first_failing ds)
appended [] ds = refl
appended (c ∷ cs) ds = rw (appended cs ds) (past c.0 c.1 (first_failing cs) (first_failing ds))

pub parts-alike : (cs ds es fs : List Guard) → first_failing cs ≡ first_failing ds → first_failing es ≡ first_failing fs → first_failing (cs ++ es) ≡ first_failing (ds ++ fs)
parts-alike cs ds es fs front back = rw (appended cs es, appended ds fs, front, back) refl

pub asked-alike : (b : Bool) (cs ds : List Guard) → first_failing cs ≡ first_failing ds → first_failing (cond b cs []) ≡ first_failing (cond b ds [])
asked-alike true cs ds e = e
asked-alike false cs ds e = refl

pub below-alike : (f g : ℕ → List Guard) → ((n : ℕ) → first_failing (f n) ≡ first_failing (g n)) → (n : ℕ) → first_failing (below f n) ≡ first_failing (below g n)
unfolding below
below-alike f g same zero = refl
below-alike f g same (suc n) = parts-alike (below f n) (below g n) (f n) (g n) (below-alike f g same n) (same n)

pub steps-alike : (f g : ℕ → Step → List Guard) → ((n : ℕ) (s : Step) → first_failing (f n s) ≡ first_failing (g n s)) → (n : ℕ) (plan : List Planned) → first_failing (steps_clauses f n plan) ≡ first_failing (steps_clauses g n plan)
steps-alike f g same n [] = refl
steps-alike f g same n (x ∷ xs) = parts-alike (f n x.step) (g n x.step) (steps_clauses f (n + 1) xs) (steps_clauses g (n + 1) xs) (same n x.step) (steps-alike f g same (n + 1) xs)

-- ---- tests that agree

pub each-alike : (f g : ℕ → Step → Bool) → ((n : ℕ) (s : Step) → f n s ≡ g n s) → (n : ℕ) (plan : List Planned) → each_step f n plan ≡ each_step g n plan
each-alike f g same n [] = refl
each-alike f g same n (x ∷ xs) = rw (same n x.step, each-alike f g same (n + 1) xs) refl

pub some-alike : (f g : ℕ → Step → Bool) → ((n : ℕ) (s : Step) → f n s ≡ g n s) → (n : ℕ) (plan : List Planned) → some_step f n plan ≡ some_step g n plan
some-alike f g same n [] = refl
some-alike f g same n (x ∷ xs) = rw (same n x.step, some-alike f g same (n + 1) xs) refl

pub each_below-alike : (f g : ℕ → Bool) → ((n : ℕ) → f n ≡ g n) → (n : ℕ) → each_below n f ≡ each_below n g
each_below-alike f g same zero = refl
each_below-alike f g same (suc n) = rw (same n, each_below-alike f g same n) refl

pub ends-alike : (O P : Test) → ((a b : ℕ) → O a b ≡ P a b) → (end : Option ℕ) (t : ℕ) → ends_before O end t ≡ ends_before P end t
ends-alike O P same None t = refl
ends-alike O P same (Some e) t = same e t

-- ---- what is asked of one step

pub has_joined-alike : (ring : RingValue) (plan : List Planned) (O P : Test) → ((a b : ℕ) → O a b ≡ P a b) → (t : ℕ) (x : NodeId) → has_joined ring plan O t x ≡ has_joined ring plan P t x
has_joined-alike ring plan O P same t x =
    ap (λ (b : Bool). is_member ring.nodes x || b) (some-alike (λ j s. is_join_of x.0 s && O j t) (λ j s. is_join_of x.0 s && P j t) (λ j s. rw (same j t) refl) 0 plan)

abbrev settles : Test → ℕ → Slot → ℕ → Step → Bool
settles R n s m u = not (is_switch_of s u) || (R m n || R n m)

pub settled-alike : (plan : List Planned) (O P : Test) → ((a b : ℕ) → O a b ≡ P a b) → (n : ℕ) (slot : Slot) (from : List ℕ) → is_settled plan O n slot from ≡ is_settled plan P n slot from
settled-alike plan O P same n slot from =
    all-same (λ j. each_step (settles O n (sibling slot j)) 0 plan) (λ j. each_step (settles P n (sibling slot j)) 0 plan) from
    (λ j. each-alike (settles O n (sibling slot j)) (settles P n (sibling slot j)) (λ m s. rw (same m n, same n m) refl) 0 plan)

-- two tests of a slot, of which the second goes over the steps
both-alike : (a b : Bool) (f g : ℕ → Step → Bool) (plan : List Planned) → a ≡ b → ((n : ℕ) (s : Step) → f n s ≡ g n s) → (a && each_step f 0 plan) ≡ (b && each_step g 0 plan)
both-alike a b f g plan first same = rw (first, each-alike f g same 0 plan) refl

left_slot-alike : (ring : RingValue) (plan : List Planned) (O P : Test) → ((a b : ℕ) → O a b ≡ P a b) → (t : ℕ) (slot : Slot) (x : NodeId) → has_left_slot ring plan O t slot x ≡ has_left_slot ring plan P t slot x
left_slot-alike ring plan O P same t slot x =
    both-alike (not (owns_first ring slot x) || ends_before O (first_end ring plan slot) t) (not (owns_first ring slot x) || ends_before P (first_end ring plan slot) t)
    (λ b s. not (nat_lt b t && is_mirror_of slot x s) || ends_before O (mirror_end ring plan slot (place_in plan slot b) x) t)
    (λ b s. not (nat_lt b t && is_mirror_of slot x s) || ends_before P (mirror_end ring plan slot (place_in plan slot b) x) t)
    plan
    (rw (ends-alike O P same (first_end ring plan slot) t) refl)
    (λ b s. rw (ends-alike O P same (mirror_end ring plan slot (place_in plan slot b) x) t) refl)

dropped_slot-alike : (ring : RingValue) (plan : List Planned) (O P : Test) → ((a b : ℕ) → O a b ≡ P a b) → (t : ℕ) (slot : Slot) (x : NodeId) → has_dropped_slot ring plan O t slot x ≡ has_dropped_slot ring plan P t slot x
dropped_slot-alike ring plan O P same t slot x =
    both-alike (not (owns_first ring slot x) || ends_before O (first_drop ring plan slot) t) (not (owns_first ring slot x) || ends_before P (first_drop ring plan slot) t)
    (λ b s. not (is_mirror_of slot x s) || ends_before O (mirror_drop plan slot (place_in plan slot b) x) t)
    (λ b s. not (is_mirror_of slot x s) || ends_before P (mirror_drop plan slot (place_in plan slot b) x) t)
    plan
    (rw (ends-alike O P same (first_drop ring plan slot) t) refl)
    (λ b s. rw (ends-alike O P same (mirror_drop plan slot (place_in plan slot b) x) t) refl)

pub has_left-alike : (ring : RingValue) (plan : List Planned) (O P : Test) → ((a b : ℕ) → O a b ≡ P a b) → (t : ℕ) (slot : Slot) (x : NodeId) → has_left ring plan O t slot x ≡ has_left ring plan P t slot x
has_left-alike ring plan O P same t slot x =
    each_below-alike (λ j. (j == slot.index) || has_left_slot ring plan O t (sibling slot j) x) (λ j. (j == slot.index) || has_left_slot ring plan P t (sibling slot j) x)
    (λ j. ap (λ (b : Bool). (j == slot.index) || b) (left_slot-alike ring plan O P same t (sibling slot j) x)) ring.n

pub has_dropped-alike : (ring : RingValue) (plan : List Planned) (O P : Test) → ((a b : ℕ) → O a b ≡ P a b) → (p t : ℕ) (x : NodeId) → has_dropped ring plan O p t x ≡ has_dropped ring plan P p t x
has_dropped-alike ring plan O P same p t x =
    each_below-alike (λ j. has_dropped_slot ring plan O t (record { partition = p; index = j }) x) (λ j. has_dropped_slot ring plan P t (record { partition = p; index = j }) x)
    (λ j. dropped_slot-alike ring plan O P same t (record { partition = p; index = j }) x) ring.n

-- ---- clauses of a step, a slot and a partition

pub step-alike : (ring : RingValue) (plan : List Planned) (O P : Test) → ((a b : ℕ) → O a b ≡ P a b) → (p n : ℕ) (s : Step) → first_failing (step_clauses ring plan O p n s) ≡ first_failing (step_clauses ring plan P p n s)
step-alike ring plan O P same p n (Join x) = refl
step-alike ring plan O P same p n (Mirror slot x) =
    asked-alike (slot.partition == p) (mirror_clauses ring plan O n slot x) (mirror_clauses ring plan P n slot x)
    (rw (has_left-alike ring plan O P same n slot x, has_joined-alike ring plan O P same n x) refl)
step-alike ring plan O P same p n (Copy slot Owner) = refl
step-alike ring plan O P same p n (Copy slot (Slots from)) =
    asked-alike (slot.partition == p) (copy_clauses ring plan O n slot from) (copy_clauses ring plan P n slot from)
    (rw (settled-alike plan O P same n slot from) refl)
step-alike ring plan O P same p n (Switch slot) = refl
step-alike ring plan O P same p n (Drop slot x) = refl
step-alike ring plan O P same p n (Retire x) = rw (has_dropped-alike ring plan O P same p n x) refl

met-alike : (plan : List Planned) (O P : Test) → ((a b : ℕ) → O a b ≡ P a b) → (a : Stage) (numbers : List ℕ) (k : ℕ) → first_failing (met_clauses plan O a numbers k) ≡ first_failing (met_clauses plan P a numbers k)
met-alike plan O P same a numbers k = rw (same (slice_index numbers (k - 1)) (slice_index numbers k)) refl

pub slot-alike : (ring : RingValue) (plan : List Planned) (O P : Test) → ((a b : ℕ) → O a b ≡ P a b) → (slot : Slot) → first_failing (slot_clauses ring plan O slot) ≡ first_failing (slot_clauses ring plan P slot)
slot-alike ring plan O P same slot =
    below-alike (slot_step_clauses ring plan O slot) (slot_step_clauses ring plan P slot)
    (λ k. met-alike plan O P same (stage ring plan slot k) (steps_of plan slot) k) (length (steps_of plan slot))

-- a partition is refused alike under either test
pub partition-alike : (ring : RingValue) (plan : List Planned) (O P : Test) → ((a b : ℕ) → O a b ≡ P a b) → (p : ℕ) → first_failing (partition_clauses ring plan O p) ≡ first_failing (partition_clauses ring plan P p)
partition-alike ring plan O P same p =
    let of_slot : Test → ℕ → List Guard = λ R i. slot_clauses ring plan R (record { partition = p; index = i }) in
    parts-alike (below (of_slot O) ring.n) (below (of_slot P) ring.n) (steps_clauses (step_clauses ring plan O p) 0 plan) (steps_clauses (step_clauses ring plan P p) 0 plan)
    (below-alike (of_slot O) (of_slot P) (λ i. slot-alike ring plan O P same (record { partition = p; index = i })) ring.n)
    (steps-alike (step_clauses ring plan O p) (step_clauses ring plan P p) (step-alike ring plan O P same p) 0 plan)
