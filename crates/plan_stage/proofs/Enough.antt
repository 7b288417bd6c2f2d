-- What the slots of a partition gather is all that it has to look at, in a plan that suits the ring.
use Rattle.std.proofs.Common.{◌≡◌, inl, inr, ℕ, suc, zero, ◌+◌, ◌<◌, true, false, not, List, [], ◌∷◌, ◌++◌, refl, sym, ap, arith, Option, Some, None}
use Rattle.std.specs.Prelude.{◌==◌, nat_lt}
use Rattle.std.specs.List.{list_all}
use Rattle.std.proofs.lemmas.Bool.{eqb-true, ltb-true, and_parts, not-true, or_right, or_left as first_of_two}
use Rattle.ring_names.specs.Lists.{has, all_different}
use Rattle.ring_names.specs.declared.ids.NodeId.{NodeId}
use Rattle.ring_names.specs.declared.ids.Slot.{Slot}
use Rattle.ring_table.specs.Value.{RingValue, owner_of}
use Rattle.plan_text.specs.declared.step.Step.{Step}
use Rattle.plan_text.specs.declared.step.Step.TheVariants.{Join, Mirror, Copy, Switch, Drop, Retire}
use Rattle.plan_text.specs.declared.step.Planned.{Planned}
use Rattle.plan_text.specs.Steps.{is_slot, retires, retired, is_retire_of, first_step, retirement_of}
use Rattle.plan_text.specs.Valid.{Suits, step_suits, source_suits, is_ring_slot, is_declared}
use Rattle.texts.specs.Numbers.{ascending}
use Rattle.plan_stage.specs.Each.{step_at}
use Rattle.plan_stage.specs.Occupancy.{is_node}
use Rattle.plan_stage.specs.Holdings.{holdings, is_none}
use Rattle.plan_stage.specs.Looking.Concerned.{is_concerned, AreConcerned}
use Rattle.plan_stage.specs.Looking.Gathered.{IsGathered, HasSlot, HasRetirement}
use Rattle.plan_stage.proofs.Truth.{same, node-is, slot-same}
use Rattle.plan_stage.proofs.Holders.{has-step, mirror-node, held-by, holder-slot, told}

-- ---- the retirement of a node

has-behind : (x : ℕ) (xs ys : List ℕ) → has x ys ≡ true → has x (xs ++ ys) ≡ true
has-behind x [] ys h = h
has-behind x (z ∷ zs) ys h = or_right (x == z) (has x (zs ++ ys)) (has-behind x zs ys h)

has-retired : (plan : List Planned) (m : ℕ) (x : NodeId) → step_at plan m ≡ Some (Retire x) → has x.0 (retired plan) ≡ true
has-retired [] m x at = absurd cc
has-retired (y ∷ ys) zero x at =
    let e : y.step ≡ Retire x = cc in
    rw e (first_of_two (x.0 == x.0) (has x.0 (retired ys)) (same x.0))
has-retired (y ∷ ys) (suc m) x at = has-behind x.0 (retires y.step) (retired ys) (has-retired ys m x at)

different-behind : (xs ys : List ℕ) → all_different (xs ++ ys) ≡ true → all_different ys ≡ true
different-behind [] ys h = h
different-behind (x ∷ xs) ys h = different-behind xs ys (and_parts (not (has x (xs ++ ys))) (all_different (xs ++ ys)) h).1

-- no step in front retires a node that a later step retires
not-before : (s : Step) (x : ℕ) (ys : List ℕ) → all_different (retires s ++ ys) ≡ true → has x ys ≡ true → is_retire_of x s ≡ false
not-before (Join y) x ys h is = refl
not-before (Mirror t y) x ys h is = refl
not-before (Copy t from) x ys h is = refl
not-before (Switch t) x ys h is = refl
not-before (Drop t y) x ys h is = refl
not-before (Retire y) x ys h is = elim (told (x == y.0)) [
  | inl e ↦ absurd (
      let g : x ≡ y.0 = eqb-true x y.0 e in
      let n : has y.0 ys ≡ false = not-true (has y.0 ys) (and_parts (not (has y.0 ys)) (all_different ys) h).0 in
      let i : has y.0 ys ≡ true = rw g at is in
      cc)
  | inr d ↦ d
]

found : (k m : ℕ) (plan : List Planned) (x : NodeId) → all_different (retired plan) ≡ true → step_at plan m ≡ Some (Retire x) → first_step (is_retire_of x.0) k plan ≡ Some (k + m)
found k m [] x h at = absurd cc
found k zero (y ∷ ys) x h at =
    let e : y.step ≡ Retire x = cc in
    let z : k + 0 ≡ k = omega arith in
    rw (e, same x.0, z) refl
found k (suc m) (y ∷ ys) x h at =
    let l : k + 1 + m ≡ k + suc m = omega arith in
    rw (not-before y.step x.0 (retired ys) h (has-retired ys m x at), ← l) (found (k + 1) m ys x (different-behind (retires y.step) (retired ys) h) at)

-- a step that retires a node is the node's retirement
pub retirement-at : (plan : List Planned) (m : ℕ) (x : NodeId) → all_different (retired plan) ≡ true → step_at plan m ≡ Some (Retire x) → retirement_of plan x.0 ≡ Some m
retirement-at plan m x h at =
    let z : 0 + m ≡ m = omega arith in
    rw z at (found 0 m plan x h at)

-- ---- the slot of a step

pub suits-at : (ring : RingValue) (plan : List Planned) → list_all (λ (x : Planned). step_suits ring x.step) plan ≡ true → (m : ℕ) (s : Step) → step_at plan m ≡ Some s → step_suits ring s ≡ true
suits-at ring [] h m s at = absurd cc
suits-at ring (x ∷ xs) h zero s at =
    let e : x.step ≡ s = cc in
    rw (← e) (and_parts (step_suits ring x.step) (list_all (λ (x : Planned). step_suits ring x.step) xs) h).0
suits-at ring (x ∷ xs) h (suc m) s at = suits-at ring xs (and_parts (step_suits ring x.step) (list_all (λ (x : Planned). step_suits ring x.step) xs) h).1 m s at

index-within : (ring : RingValue) (slot : Slot) → is_ring_slot ring slot ≡ true → slot.index < ring.n
index-within ring slot h = ltb-true slot.index ring.n (and_parts (nat_lt slot.partition ring.q) (nat_lt slot.index ring.n) h).1

on-itself : (p : ℕ) (slot : Slot) → (slot.partition == p) ≡ true → is_slot (record { partition = p; index = slot.index }) slot ≡ true
on-itself p slot h = (let e : slot.partition ≡ p = eqb-true slot.partition p h in rw (← e) (slot-same slot))

-- ---- all that is concerned

pub owner-is : (o : Option NodeId) (x : NodeId) → (elim o [ Some y ↦ is_node x y | None ↦ false ]) ≡ true → o ≡ Some x
owner-is None x h = absurd cc
owner-is (Some y) x h = ap Some (sym (node-is x y h))

holder-retires : (ring : RingValue) (plan : List Planned) (slot : Slot) (x : NodeId) (numbers : List ℕ) → HasSlot ring plan slot numbers → is_none (holdings ring plan slot x) ≡ false → HasRetirement plan x numbers
holder-retires ring plan slot x numbers h some = elim (held-by ring plan slot x some) [
  | inl owns ↦ h.owner x (owner-is (owner_of ring slot) x owns)
  | inr m ↦ (h.steps m.number m.listed).mirrored m.step x m.here (mirror-node slot x m.step m.mirrors)
]

concerned-at : (ring : RingValue) (plan : List Planned) (p : ℕ) (numbers : List ℕ) → Suits ring plan → IsGathered ring plan p numbers → (n : ℕ) (s : Step) → step_at plan n ≡ Some s → is_concerned ring plan p s ≡ true → has n numbers ≡ true
concerned-at ring plan p numbers suits g n (Join x) at h = absurd cc
concerned-at ring plan p numbers suits g n (Mirror slot x) at h =
    let b = and_parts (is_ring_slot ring slot) (is_declared ring x) (suits-at ring plan suits.steps n (Mirror slot x) at) in
    ((g.slots slot.index (index-within ring slot b.0)).steps n (has-step plan (record { partition = p; index = slot.index }) n (Mirror slot x) at (on-itself p slot h))).here (Mirror slot x) at refl
concerned-at ring plan p numbers suits g n (Copy slot from) at h =
    let b = and_parts (is_ring_slot ring slot) (source_suits ring from) (suits-at ring plan suits.steps n (Copy slot from) at) in
    ((g.slots slot.index (index-within ring slot b.0)).steps n (has-step plan (record { partition = p; index = slot.index }) n (Copy slot from) at (on-itself p slot h))).here (Copy slot from) at refl
concerned-at ring plan p numbers suits g n (Switch slot) at h = absurd cc
concerned-at ring plan p numbers suits g n (Drop slot x) at h = absurd cc
concerned-at ring plan p numbers suits g n (Retire x) at h =
    let r = holder-slot ring plan p x h in
    holder-retires ring plan (record { partition = p; index = r.0 }) x numbers (g.slots r.0 r.1) r.2 n (retirement-at plan n x suits.retirements at)

pub concerned-from : (ring : RingValue) (plan : List Planned) (p : ℕ) (numbers : List ℕ) → Suits ring plan → ascending numbers ≡ true → IsGathered ring plan p numbers → AreConcerned ring plan p numbers
concerned-from ring plan p numbers suits asc g = record { ascending = asc; within = g.within; all = concerned-at ring plan p numbers suits g }
