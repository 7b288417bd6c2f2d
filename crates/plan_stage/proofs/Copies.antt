-- The nodes of a copy, and the steps before it.
use Rattle.std.proofs.Common.{◌≡◌, ◌∙◌, ℕ, zero, suc, ◌+◌, ◌-◌, ◌<◌, ◌≤◌, Bool, true, false, cond, List, [], ◌∷◌, length, get_or, drop, map, Option, Some, None, refl, ap, sym, arith, ltb-true}
use Rattle.std.specs.Prelude.{nat_lt, slice_get, option_map, count_by}
use Rattle.std.specs.List.{list_all}
use Rattle.std.proofs.lemmas.List.Recursion.{is_count_by}
use Rattle.std.proofs.lemmas.List.{drop_more}
use Rattle.std.proofs.lemmas.Bool.{and_parts}
use Rattle.ring_names.specs.declared.ids.Slot.{Slot}
use Rattle.ring_names.specs.declared.ids.NodeId.{NodeId}
use Rattle.ring_table.specs.Value.{RingValue}
use Rattle.plan_text.specs.declared.step.Step.{Step}
use Rattle.plan_text.specs.declared.step.Step.TheVariants.{Copy}
use Rattle.plan_text.specs.declared.step.Source.{Source}
use Rattle.plan_text.specs.declared.step.Planned.{Planned}
use Rattle.plan_text.specs.Steps.{is_on, steps_from, steps_of}
use Rattle.plan_text.specs.Valid.{Suits, step_suits, source_suits, is_ring_slot}
use Rattle.plan_stage.specs.Parties.{count_below, stage_before, owners_before}
use Rattle.plan_stage.specs.Stage.{with_node}

-- ---- how many steps stand before one

pub count_by-count_below : (n : ℕ) (xs : List ℕ) → count_by (λ s. nat_lt s n) xs ≡ count_below n xs
count_by-count_below n xs = sym (is_count_by (count_below n) (λ s. nat_lt s n) refl (λ x ys. by (nat_lt x n) (count_below n ys)) xs)
  where
    by : (b : Bool) (k : ℕ) → cond b (k + 1) k ≡ cond b (1 + k) k
    by true k = omega arith
    by false k = refl

few : (b : Bool) (k m : ℕ) (xs : List ℕ) → length xs ≤ m → length (cond b (k ∷ xs) xs) ≤ m + 1
few true k m xs l = omega arith
few false k m xs l = omega arith

pub steps_from-few : (k : ℕ) (plan : List Planned) (slot : Slot) → length (steps_from k plan slot) ≤ length plan
steps_from-few k [] slot = omega arith
steps_from-few k (x ∷ xs) slot = (let l = few (is_on slot x.step) k (length xs) (steps_from (k + 1) xs slot) (steps_from-few (k + 1) xs slot) in omega (arith, l))

-- a slot has no more steps than the plan
pub steps_of-few : (plan : List Planned) (slot : Slot) → length (steps_of plan slot) ≤ length plan
steps_of-few plan slot = steps_from-few 0 plan slot

-- ---- what suits the ring

all_at : {X : Type 0} → (f : X → Bool) (xs : List X) (n : ℕ) (x : X) → list_all f xs ≡ true → slice_get xs n ≡ Some x → f x ≡ true
all_at f [] n x all at = absurd cc
all_at f (y ∷ ys) zero x all at = (let e : y ≡ x = cc in ap f (sym e) ∙ (and_parts (f y) (list_all f ys) all).0)
all_at f (y ∷ ys) (suc n) x all at = all_at f ys n x (and_parts (f y) (list_all f ys) all).1 at

-- so does each step of the plan
step-suits : (ring : RingValue) (plan : List Planned) (n : ℕ) (t : Step) → Suits ring plan → option_map (λ (x : Planned). x.step) (slice_get plan n) ≡ Some t → step_suits ring t ≡ true
step-suits ring plan n t suits at = by (slice_get plan n) refl at
  where
    by : (o : Option Planned) → slice_get plan n ≡ o → option_map (λ (x : Planned). x.step) o ≡ Some t → step_suits ring t ≡ true
    by None e at = absurd cc
    by (Some x) e at = (let same : x.step ≡ t = cc in ap (step_suits ring) (sym same) ∙ all_at (λ (z : Planned). step_suits ring z.step) plan n x suits.steps e)

-- and the slots of a copy
pub copy-suits : (ring : RingValue) (plan : List Planned) (n : ℕ) (t : Step) (slot : Slot) (source : Source) → Suits ring plan → option_map (λ (x : Planned). x.step) (slice_get plan n) ≡ Some t → t ≡ Copy slot source → (slot.partition < ring.q) × (slot.index < ring.n) × (source_suits ring source ≡ true)
copy-suits ring plan n t slot source suits at e =
    let b = and_parts (is_ring_slot ring slot) (source_suits ring source) (ap (step_suits ring) (sym e) ∙ step-suits ring plan n t suits at) in
    let s = and_parts (nat_lt slot.partition ring.q) (nat_lt slot.index ring.n) b.0 in
    (ltb-true slot.partition ring.q s.0, ltb-true slot.index ring.n s.1, b.1)

-- ---- the owners of one more slot

pub owners_more : (ring : RingValue) (plan : List Planned) (n p : ℕ) (from : List ℕ) (k : ℕ) (xs ys : List NodeId) → 0 < k → k ≤ length from
    → ys ≡ with_node (stage_before ring plan (record { partition = p; index = get_or from (k - 1) 0 }) n).owner xs
    → xs ≡ owners_before ring plan n (map (λ i. record { partition = p; index = i }) (drop k from))
    → ys ≡ owners_before ring plan n (map (λ i. record { partition = p; index = i }) (drop (k - 1) from))
owners_more ring plan n p from k xs ys some le put before =
    let plus : k - 1 + 1 ≡ k = omega arith in
    let l : k - 1 < length from = omega arith in
    let split : drop (k - 1) from ≡ get_or from (k - 1) 0 ∷ drop k from = drop_more from (k - 1) 0 l ∙ ap (λ (j : ℕ). get_or from (k - 1) 0 ∷ drop j from) plus in
    put ∙ ap (λ (l : List NodeId). with_node (stage_before ring plan (record { partition = p; index = get_or from (k - 1) 0 }) n).owner l) before
    ∙ sym (ap (λ (l : List ℕ). owners_before ring plan n (map (λ i. record { partition = p; index = i }) l)) split)
