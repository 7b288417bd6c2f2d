-- Steps of a plan that suits a ring are about the ring's slots and nodes.
use Rattle.std.proofs.Common.{◌≡◌, ℕ, suc, zero, ◌+◌, ◌<◌, Bool, true, false, cond, List, [], ◌∷◌, length, refl, arith, Option, Some, None}
use Rattle.std.specs.Prelude.{nat_lt, slice_get, option_and_then}
use Rattle.std.specs.List.{list_all, AllByRecursion}
use Rattle.std.proofs.lemmas.Bool.{ltb-true, and_parts}
use Rattle.std.proofs.lemmas.Option.{slice_get_within}
use Rattle.ring_names.specs.declared.ids.NodeId.{NodeId}
use Rattle.ring_names.specs.declared.ids.Slot.{Slot}
use Rattle.ring_table.specs.declared.node.Node.{Node}
use Rattle.ring_table.specs.declared.allowance.Side.{Side}
use Rattle.ring_table.specs.Value.{RingValue, owner_of, most_of, allowance_of}
use Rattle.ring_table.specs.Valid.{IsRing, IsRow}
use Rattle.plan_text.specs.declared.step.Step.{Step}
use Rattle.plan_text.specs.declared.step.Step.TheVariants.{Join, Mirror, Copy, Switch, Drop, Retire}
use Rattle.plan_text.specs.declared.step.Planned.{Planned}
use Rattle.plan_text.specs.Steps.{is_on, steps_from, steps_of}
use Rattle.plan_text.specs.Valid.{Suits, step_suits, source_suits, is_ring_slot, is_declared}
use Rattle.plan_stage.specs.Each.{step_at}
use Rattle.plan_stage.proofs.Truth.{slot-is}

-- ---- a step, and the slot of a step

abbrev pub all_suit : RingValue → List Planned → Bool
all_suit ring plan = list_all (λ (x : Planned). step_suits ring x.step) plan

pub suits-at : (ring : RingValue) (plan : List Planned) → all_suit ring plan ≡ true → (m : ℕ) (s : Step) → step_at plan m ≡ Some s → step_suits ring s ≡ true
suits-at ring [] h m s at = absurd cc
suits-at ring (x ∷ xs) h zero s at =
    let e : x.step ≡ s = cc in
    rw (← e) (and_parts (step_suits ring x.step) (all_suit ring xs) h).0
suits-at ring (x ∷ xs) h (suc m) s at = suits-at ring xs (and_parts (step_suits ring x.step) (all_suit ring xs) h).1 m s at

pub within : (ring : RingValue) (s : Slot) → is_ring_slot ring s ≡ true → (s.partition < ring.q) × (s.index < ring.n)
within ring s h =
    let b = and_parts (nat_lt s.partition ring.q) (nat_lt s.index ring.n) h in
    (ltb-true s.partition ring.q b.0, ltb-true s.index ring.n b.1)

on-suits : (ring : RingValue) (slot : Slot) (t : Step) → is_on slot t ≡ true → step_suits ring t ≡ true → is_ring_slot ring slot ≡ true
on-suits ring slot (Join x) on h = absurd cc
on-suits ring slot (Mirror t x) on h = (let e = slot-is slot t on in rw e (and_parts (is_ring_slot ring t) (is_declared ring x) h).0)
on-suits ring slot (Copy t from) on h = (let e = slot-is slot t on in rw e (and_parts (is_ring_slot ring t) (source_suits ring from) h).0)
on-suits ring slot (Switch t) on h = (let e = slot-is slot t on in rw e h)
on-suits ring slot (Drop t x) on h = (let e = slot-is slot t on in rw e (and_parts (is_ring_slot ring t) (is_declared ring x) h).0)
on-suits ring slot (Retire x) on h = absurd cc

pub step-within : (ring : RingValue) (plan : List Planned) → Suits ring plan → (slot : Slot) (m : ℕ) (s : Step) → step_at plan m ≡ Some s → is_on slot s ≡ true → (slot.partition < ring.q) × (slot.index < ring.n)
step-within ring plan suits slot m s at on = within ring slot (on-suits ring slot s on (suits-at ring plan suits.steps m s at))

pick : (b : Bool) (k : ℕ) (ys : List ℕ) (P : Type 0) → (b ≡ true → P) → (0 < length ys → P) → 0 < length (cond b (k ∷ ys) ys) → P
pick true k ys P here there l = here refl
pick false k ys P here there l = there l

some-suits : (ring : RingValue) (k : ℕ) (plan : List Planned) (slot : Slot) → all_suit ring plan ≡ true → 0 < length (steps_from k plan slot) → is_ring_slot ring slot ≡ true
some-suits ring k [] slot h l = absurd (omega arith)
some-suits ring k (x ∷ xs) slot h l =
    let b = and_parts (step_suits ring x.step) (all_suit ring xs) h in
    pick (is_on slot x.step) k (steps_from (k + 1) xs slot) (is_ring_slot ring slot ≡ true) (λ on. on-suits ring slot x.step on b.0) (λ m. some-suits ring (k + 1) xs slot b.1 m) l

-- a slot with steps is the ring's
pub slot-within : (ring : RingValue) (plan : List Planned) → Suits ring plan → (slot : Slot) → 0 < length (steps_of plan slot) → (slot.partition < ring.q) × (slot.index < ring.n)
slot-within ring plan suits slot l = within ring slot (some-suits ring 0 plan slot suits.steps l)

-- ---- a node that retires

pub retires-within : (ring : RingValue) (plan : List Planned) → Suits ring plan → (m : ℕ) (x : NodeId) → step_at plan m ≡ Some (Retire x) → x.0 < length ring.nodes
retires-within ring plan suits m x at = ltb-true x.0 (length ring.nodes) (suits-at ring plan suits.steps m (Retire x) at)

-- ---- a slot with an owner

owned : (n : ℕ) (nodes : List Node) (rows : List (List NodeId)) → AllByRecursion (IsRow n nodes) rows → (p i : ℕ) (x : NodeId) → option_and_then (λ (row : List NodeId). slice_get row i) (slice_get rows p) ≡ Some x → (p < length rows) × (i < n)
owned n nodes [] all p i x h = absurd cc
owned n nodes (row ∷ rows) all zero i x h =
    let l : i < length row = slice_get_within row i x h in
    let e : length row ≡ n = all.0.slots in
    (omega arith, omega arith)
owned n nodes (row ∷ rows) all (suc p) i x h =
    let r = owned n nodes rows all.1 p i x h in
    let l : p < length rows = r.0 in
    (omega arith, r.1)

pub owner-within : (ring : RingValue) → IsRing ring → (slot : Slot) (x : NodeId) → owner_of ring slot ≡ Some x → (slot.partition < ring.q) × (slot.index < ring.n)
owner-within ring is slot x h =
    let r = owned ring.n ring.nodes ring.owners is.rows slot.partition slot.index x h in
    let l : slot.partition < length ring.owners = r.0 in
    let e : length ring.owners ≡ ring.q = is.partitions in
    (omega arith, r.1)

-- ---- a node with an allowance

some_of : (o : Option Node) (side : Side) (a : ℕ) → (elim o [ Some node ↦ most_of side node.allowance | None ↦ None ]) ≡ Some a → (y : Node) × (o ≡ Some y)
some_of None side a h = absurd cc
some_of (Some y) side a h = (y, refl)

pub allowance-within : (ring : RingValue) (x : ℕ) (side : Side) (a : ℕ) → allowance_of ring x side ≡ Some a → x < length ring.nodes
allowance-within ring x side a h = (let s = some_of (slice_get ring.nodes x) side a h in slice_get_within ring.nodes x s.0 s.1)
