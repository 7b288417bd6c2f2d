-- Which nodes hold some slot, by its first owner and its mirrors.
use Rattle.std.proofs.Common.{◌≡◌, ◌⊎◌, inl, inr, ℕ, suc, zero, ◌+◌, ◌<◌, Bool, true, false, not, cond, List, [], ◌∷◌, ◌++◌, refl, sym, ap, arith, Option, Some, None}
use Rattle.std.specs.Prelude.{◌&&◌, ◌==◌}
use Rattle.std.proofs.lemmas.Bool.{eqb-true, and_parts, not-true, or_right, or_cases as either, or_left}
use Rattle.ring_names.specs.Lists.{has}
use Rattle.ring_names.specs.declared.ids.NodeId.{NodeId}
use Rattle.ring_names.specs.declared.ids.Slot.{Slot}
use Rattle.ring_table.specs.Value.{RingValue}
use Rattle.plan_text.specs.declared.step.Step.{Step}
use Rattle.plan_text.specs.declared.step.Step.TheVariants.{Join, Mirror, Copy, Switch, Drop, Retire}
use Rattle.plan_text.specs.declared.step.Planned.{Planned}
use Rattle.plan_text.specs.Steps.{is_slot, is_on, steps_from, steps_of}
use Rattle.plan_stage.specs.declared.holding.Holding.{Holding}
use Rattle.plan_stage.specs.declared.stage.Stage.{Stage}
use Rattle.plan_stage.specs.Stage.{opening, after}
use Rattle.plan_stage.specs.Occupancy.{is_node}
use Rattle.plan_stage.specs.Each.{step_at, each_below, is_mirror_of, owns_first}
use Rattle.plan_stage.specs.Holdings.{holdings_from, first_holding, holdings, is_none, is_holder}
use Rattle.plan_stage.specs.Looking.Gathered.{mirrored_node}
use Rattle.plan_stage.proofs.Truth.{same, each_below-met, node-is}

pub told : (b : Bool) → (b ≡ true) ⊎ (b ≡ false)
told true = inl refl
told false = inr refl

-- ---- the steps of a slot

pub mirror-on : (slot : Slot) (x : NodeId) (s : Step) → is_mirror_of slot x s ≡ true → is_on slot s ≡ true
mirror-on slot x (Join y) h = absurd cc
mirror-on slot x (Mirror t y) h = (and_parts (is_slot slot t) (is_node x y) h).0
mirror-on slot x (Copy t from) h = absurd cc
mirror-on slot x (Switch t) h = absurd cc
mirror-on slot x (Drop t y) h = absurd cc
mirror-on slot x (Retire y) h = absurd cc

pub mirror-node : (slot : Slot) (x : NodeId) (s : Step) → is_mirror_of slot x s ≡ true → mirrored_node s ≡ Some x
mirror-node slot x (Join y) h = absurd cc
mirror-node slot x (Mirror t y) h = ap Some (sym (node-is x y (and_parts (is_slot slot t) (is_node x y) h).1))
mirror-node slot x (Copy t from) h = absurd cc
mirror-node slot x (Switch t) h = absurd cc
mirror-node slot x (Drop t y) h = absurd cc
mirror-node slot x (Retire y) h = absurd cc

has-first : (b : Bool) (k : ℕ) (ks : List ℕ) → b ≡ true → has k (cond b (k ∷ ks) ks) ≡ true
has-first b k ks h = rw h (or_left (k == k) (has k ks) (same k))

has-later : (b : Bool) (k n : ℕ) (ks : List ℕ) → has n ks ≡ true → has n (cond b (k ∷ ks) ks) ≡ true
has-later true k n ks h = or_right (n == k) (has n ks) h
has-later false k n ks h = h

pub has-from : (k m : ℕ) (plan : List Planned) (slot : Slot) (s : Step) → step_at plan m ≡ Some s → is_on slot s ≡ true → has (k + m) (steps_from k plan slot) ≡ true
has-from k m [] slot s at on = absurd cc
has-from k zero (x ∷ xs) slot s at on =
    let e : x.step ≡ s = cc in
    let z : k + 0 ≡ k = omega arith in
    rw z (has-first (is_on slot x.step) k (steps_from (k + 1) xs slot) (rw e on))
has-from k (suc m) (x ∷ xs) slot s at on =
    let l : k + 1 + m ≡ k + suc m = omega arith in
    has-later (is_on slot x.step) k (k + suc m) (steps_from (k + 1) xs slot) (rw l at (has-from (k + 1) m xs slot s at on))

-- a step of the slot is among the slot's steps
pub has-step : (plan : List Planned) (slot : Slot) (m : ℕ) (s : Step) → step_at plan m ≡ Some s → is_on slot s ≡ true → has m (steps_of plan slot) ≡ true
has-step plan slot m s at on =
    let z : 0 + m ≡ m = omega arith in
    rw z at (has-from 0 m plan slot s at on)

-- ---- a node that holds the slot for some time

-- one of these steps mirrors the slot to the node
pub record Mirrors (plan : List Planned) (slot : Slot) (x : NodeId) (bs : List ℕ) : Type 0 where
  pub number : ℕ
  pub step : Step
  pub listed : has number bs ≡ true
  pub here : step_at plan number ≡ Some step
  pub mirrors : is_mirror_of slot x step ≡ true

abbrev tests : Slot → NodeId → Option Step → Bool
tests slot x o = elim o [ Some s ↦ is_mirror_of slot x s | None ↦ false ]

tested : (plan : List Planned) (slot : Slot) (x : NodeId) (b : ℕ) (bs : List ℕ) (o : Option Step) → step_at plan b ≡ o → tests slot x o ≡ true → Mirrors plan slot x (b ∷ bs)
tested plan slot x b bs None at h = absurd cc
tested plan slot x b bs (Some s) at h = record { number = b; step = s; listed = or_left (b == b) (has b bs) (same b); here = at; mirrors = h }

mirrors-later : (plan : List Planned) (slot : Slot) (x : NodeId) (b : ℕ) (bs : List ℕ) → Mirrors plan slot x bs → Mirrors plan slot x (b ∷ bs)
mirrors-later plan slot x b bs m = record { number = m.number; step = m.step; listed = or_right (m.number == b) (has m.number bs) m.listed; here = m.here; mirrors = m.mirrors }

either_way : (b : Bool) (h : Holding) (hs : List Holding) → is_none (cond b (h ∷ hs) hs) ≡ false → (b ≡ true) ⊎ (is_none hs ≡ false)
either_way true h hs e = inl refl
either_way false h hs e = inr e

from-mirror : (plan : List Planned) (slot : Slot) (x : NodeId) (a : Stage) (bs : List ℕ) → is_none (holdings_from plan slot x a bs) ≡ false → Mirrors plan slot x bs
from-mirror plan slot x a [] h = absurd cc
from-mirror plan slot x a (b ∷ bs) h = elim (either_way (tests slot x (step_at plan b)) _ (holdings_from plan slot x (after plan a b) bs) h) [
  | inl here ↦ tested plan slot x b bs (step_at plan b) refl here
  | inr there ↦ mirrors-later plan slot x b bs (from-mirror plan slot x (after plan a b) bs there)
]

owned_or : (b : Bool) (h : Holding) (hs : List Holding) → is_none (cond b (h ∷ []) [] ++ hs) ≡ false → (b ≡ true) ⊎ (is_none hs ≡ false)
owned_or true h hs e = inl refl
owned_or false h hs e = inr e

-- it owns the slot first, or is mirrored by a step of the slot
pub held-by : (ring : RingValue) (plan : List Planned) (slot : Slot) (x : NodeId) → is_none (holdings ring plan slot x) ≡ false → (owns_first ring slot x ≡ true) ⊎ Mirrors plan slot x (steps_of plan slot)
held-by ring plan slot x h = elim (owned_or (owns_first ring slot x) (first_holding ring plan slot) (holdings_from plan slot x (opening ring slot) (steps_of plan slot)) h) [
  | inl owns ↦ inl owns
  | inr mirror ↦ inr (from-mirror plan slot x (opening ring slot) (steps_of plan slot) mirror)
]

-- ---- a node that holds the slot at no time

none_left : (b : Bool) (h : Holding) (hs : List Holding) → is_none (cond b (h ∷ hs) hs) ≡ true → (b ≡ false) × (is_none hs ≡ true)
none_left true h hs e = absurd cc
none_left false h hs e = (refl, e)

none_first : (b : Bool) (h : Holding) (hs : List Holding) → is_none (cond b (h ∷ []) [] ++ hs) ≡ true → (b ≡ false) × (is_none hs ≡ true)
none_first true h hs e = absurd cc
none_first false h hs e = (refl, e)

no-mirror : (plan : List Planned) (slot : Slot) (x : NodeId) (a : Stage) (bs : List ℕ) → is_none (holdings_from plan slot x a bs) ≡ true → (b : ℕ) (s : Step) → has b bs ≡ true → step_at plan b ≡ Some s → is_mirror_of slot x s ≡ false
no-mirror plan slot x a [] h b s is at = absurd cc
no-mirror plan slot x a (c ∷ cs) h b s is at =
    let n = none_left (tests slot x (step_at plan c)) _ (holdings_from plan slot x (after plan a c) cs) h in
    elim (either (b == c) (has b cs) is) [
      | inl here ↦ (
          let e : b ≡ c = eqb-true b c here in
          let t : tests slot x (step_at plan b) ≡ false = rw e n.0 in
          rw at at t)
      | inr there ↦ no-mirror plan slot x (after plan a c) cs n.1 b s there at
    ]

-- it does not own the slot first, and no step mirrors the slot to it
pub record IsFree (ring : RingValue) (plan : List Planned) (slot : Slot) (x : NodeId) : Type 0 where
  pub owns : owns_first ring slot x ≡ false
  pub mirrors : (m : ℕ) (s : Step) → step_at plan m ≡ Some s → is_mirror_of slot x s ≡ false

pub free-from : (ring : RingValue) (plan : List Planned) (slot : Slot) (x : NodeId) → is_none (holdings ring plan slot x) ≡ true → IsFree ring plan slot x
free-from ring plan slot x h =
    let n = none_first (owns_first ring slot x) (first_holding ring plan slot) (holdings_from plan slot x (opening ring slot) (steps_of plan slot)) h in
    record { owns = n.0; mirrors = λ m s at. by m s at (told (is_mirror_of slot x s)) n.1 }
  where
    by : (m : ℕ) (s : Step) → step_at plan m ≡ Some s → (is_mirror_of slot x s ≡ true) ⊎ (is_mirror_of slot x s ≡ false) → is_none (holdings_from plan slot x (opening ring slot) (steps_of plan slot)) ≡ true → is_mirror_of slot x s ≡ false
    by m s at (inl mirrors) none = no-mirror plan slot x (opening ring slot) (steps_of plan slot) none m s (has-step plan slot m s at (mirror-on slot x s mirrors)) at
    by m s at (inr not_so) none = not_so

-- ---- a partition

pub some_below : (f : ℕ → Bool) (n : ℕ) → each_below n f ≡ false → (k : ℕ) × (k < n) × (f k ≡ false)
some_below f zero h = absurd cc
some_below f (suc n) h = elim (told (f n)) [
  | inl here ↦ (let r = some_below f n (first_false (each_below n f) (f n) h here) in (r.0, (let l : r.0 < n = r.1 in omega arith), r.2))
  | inr not_so ↦ (n, omega arith, not_so)
]
  where
    first_false : (a b : Bool) → (a && b) ≡ false → b ≡ true → a ≡ false
    first_false true b h k = absurd cc
    first_false false b h k = refl

not_false : (b : Bool) → not b ≡ false → b ≡ true
not_false true e = refl
not_false false e = absurd cc

abbrev empty_at : RingValue → List Planned → ℕ → NodeId → ℕ → Bool
empty_at ring plan p x i = is_none (holdings ring plan (record { partition = p; index = i }) x)

pub holder-slot : (ring : RingValue) (plan : List Planned) (p : ℕ) (x : NodeId) → is_holder ring plan p x ≡ true → (i : ℕ) × (i < ring.n) × (is_none (holdings ring plan (record { partition = p; index = i }) x) ≡ false)
holder-slot ring plan p x h = some_below (empty_at ring plan p x) ring.n (not-true (each_below ring.n (empty_at ring plan p x)) h)

pub no-holder : (ring : RingValue) (plan : List Planned) (p : ℕ) (x : NodeId) → is_holder ring plan p x ≡ false → (i : ℕ) → i < ring.n → IsFree ring plan (record { partition = p; index = i }) x
no-holder ring plan p x h i l =
    free-from ring plan (record { partition = p; index = i }) x (each_below-met (empty_at ring plan p x) ring.n (not_false (each_below ring.n (empty_at ring plan p x)) h) i l)
