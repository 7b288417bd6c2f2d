-- No clause of the checker fails exactly if the certificate certifies the plan.
use Rattle.std.proofs.Common.{◌≡◌, ℕ, suc, ◌-◌, ◌<◌, Bool, true, false, cond, Option, List, [], ◌∷◌, ◌++◌, length, refl, arith, Some, None}
use Rattle.std.specs.Prelude.{◌&&◌, ◌||◌, ◌==◌, nat_le, slice_index, is_some}
use Rattle.std.specs.List.{list_all}
use Rattle.std.proofs.lemmas.Bool.{leb-true, le-leb, and_parts, and_from}
use Rattle.ring_names.specs.Lists.{all_different}
use Rattle.ring_names.specs.declared.ids.NodeId.{NodeId}
use Rattle.ring_names.specs.declared.ids.Slot.{Slot}
use Rattle.ring_names.specs.declared.refusal.Refusal.{Refusal}
use Rattle.ring_names.specs.declared.refusal.Refusal.TheVariants.{BadSource, MovingSource, SharedInPlan, NotJoined, RetiredInUse, CoverMissing, TooManyChains}
use Rattle.ring_table.specs.declared.allowance.Side.{Side}
use Rattle.ring_table.specs.declared.allowance.Side.TheVariants.{Both, Take, Give}
use Rattle.ring_table.specs.Value.{RingValue, allowance_of}
use Rattle.ring_table.specs.Valid.{IsRing}
use Rattle.plan_text.specs.declared.step.Source.TheVariants.{Owner, Slots}
use Rattle.plan_text.specs.declared.step.Step.{Step}
use Rattle.plan_text.specs.declared.step.Step.TheVariants.{Join, Mirror, Copy, Switch, Drop, Retire}
use Rattle.plan_text.specs.declared.step.Planned.{Planned}
use Rattle.plan_text.specs.Steps.{steps_of, is_retire_of}
use Rattle.plan_text.specs.Valid.{Suits}
use Rattle.plan_cert.specs.declared.cert.Cert.{Cert}
use Rattle.plan_stage.specs.Stage.{stage, is_among}
use Rattle.plan_stage.specs.Clauses.{first_failing, below, is_staged, AllStaged, Guard}
use Rattle.plan_stage.specs.Parties.{parties_on}
use Rattle.plan_stage.proofs.Below.{met, below-met, below-all}
use Rattle.plan_stage.specs.Each.{step_at, sibling}
use Rattle.plan_stage.specs.declared.missed.Missed.{Missed}
use Rattle.plan_stage.specs.Missed.{misses, HoldBut, HoldsBut}
use Rattle.plan_stage.proofs.Noted.{none-holds}
use Rattle.plan_check.specs.Sound.{AreCovered, AreInTurn, AreSettled, HaveLeft, Meets, ReadEnough, ServeAsMembers}
use Rattle.plan_cover.specs.Clauses.{in_some, chains_from, has_side, chains_clauses, is_few, retire_clauses, cover_clauses, side_covers, side_count, each_side, node_clauses}
use Rattle.plan_check.specs.Certified.{IsCertified, ordered_by}
use Rattle.plan_check.specs.First.{fact_clauses, first_refusal}
use Rattle.plan_stage.specs.Partition.{Test, is_settled, has_left, has_joined, has_dropped, step_clauses, steps_clauses, slot_step_clauses, slot_clauses, partition_clauses}
use Rattle.plan_stage.proofs.Truth.{push, two-met, two-all, parted, together, asked-met, asked-all, clauses-met, clauses-all, same, slot-same}
use Rattle.plan_runs.proofs.Suited.{step-within, slot-within, retires-within, owner-within, allowance-within}
use Rattle.plan_check.proofs.Firsts.{holds, facts-met, facts-all, order-met, order-all, retire-is, settled-met, settled-all, left_first-met, left_later-met, left-all, joined-met, joined-all, dropped_first-met, dropped_later-met, dropped-all, AreGood, IsAllowed, AllGood, chains-met, chains-all, party-step, few-met, few-all}

-- ---- the clauses, one by one

-- the order of the k-th of the slot's steps
abbrev orders : List Planned → Test → Slot → ℕ → Bool
orders plan O slot k = (k == 0) || O (slice_index (steps_of plan slot) (k - 1)) (slice_index (steps_of plan slot) k)

-- the clauses of the partitions hold, but those of steps that may fail
pub record Parts (ring : RingValue) (plan : List Planned) (O : Test) (a : Missed) : Type 0 where
  staged : AllStaged ring plan
  ordered : (slot : Slot) → slot.partition < ring.q → slot.index < ring.n → (k : ℕ) → k < length (steps_of plan slot) → orders plan O slot k ≡ true
  steps : (p : ℕ) → p < ring.q → (n : ℕ) (s : Step) → step_at plan n ≡ Some s → HoldBut a (step_clauses ring plan O p n s)

-- a clause whose kind may not fail holds
held-one : (a : Missed) (b : Bool) (e : Refusal) → (b || misses a e) ≡ true → misses a e ≡ false → b ≡ true
held-one a true e h f = refl
held-one a false e h f = absurd (let g : misses a e ≡ true = h in cc)

held-two : (a : Missed) (b c : Bool) (e f : Refusal) → HoldBut a ((b, e) ∷ (c, f) ∷ []) → (misses a e ≡ false → b ≡ true) × (misses a f ≡ false → c ≡ true)
held-two a b c e f h =
    let x = and_parts (b || misses a e) ((c || misses a f) && true) h in
    let y = and_parts (c || misses a f) true x.1 in
    (held-one a b e x.0, held-one a c f y.0)

held-asked : (a : Missed) (b : Bool) (cs : List Guard) → HoldBut a (cond b cs []) → b ≡ true → HoldBut a cs
held-asked a true cs h k = h
held-asked a false cs h k = absurd cc

-- none may fail
abbrev nothing : Missed
nothing = record { sources = false; settled = false; left = false; joined = false; dropped = false }

misses-none : (r : Refusal) → misses nothing r ≡ false
misses-none (BadSource n) = refl
misses-none (MovingSource n) = refl
misses-none (SharedInPlan n) = refl
misses-none (NotJoined n) = refl
misses-none (RetiredInUse n) = refl
misses-none r = refl

-- and of clauses that hold none fails
none-fails : (cs : List Guard) → HoldBut nothing cs → first_failing cs ≡ None
none-fails [] h = refl
none-fails (c ∷ cs) h =
    let b = and_parts (c.0 || misses nothing c.1) (list_all (λ g. g.0 || misses nothing g.1) cs) h in
    push c.0 c.1 (first_failing cs) (held-one nothing c.0 c.1 b.0 (misses-none c.1)) (none-fails cs b.1)

pub record Nodes (ring : RingValue) (plan : List Planned) (cert : Cert) (O : Test) : Type 0 where
  retired : (x : NodeId) → x.0 < length ring.nodes → (n : ℕ) (s : Step) → step_at plan n ≡ Some s → first_failing (retire_clauses ring plan O x n s) ≡ None
  chains : (x : NodeId) → x.0 < length ring.nodes → first_failing (chains_clauses ring plan O x 0 cert.chains) ≡ None
  cover : (x : NodeId) → x.0 < length ring.nodes → (side : Side) → has_side ring x side ≡ true → (n : ℕ) (s : Step) → step_at plan n ≡ Some s → first_failing (cover_clauses ring plan (chains_from x.0 side cert.chains) x side n s) ≡ None
  few : (x : NodeId) → x.0 < length ring.nodes → (side : Side) → is_few ring x side (length (chains_from x.0 side cert.chains)) ≡ true

slot-met : (ring : RingValue) (plan : List Planned) (O : Test) (slot : Slot) → first_failing (slot_clauses ring plan O slot) ≡ None → (k : ℕ) → k < length (steps_of plan slot) → (is_staged plan (stage ring plan slot k) (steps_of plan slot) k ≡ true) × (orders plan O slot k ≡ true)
slot-met ring plan O slot h k l =
    two-met (is_staged plan (stage ring plan slot k) (steps_of plan slot) k) (orders plan O slot k) _ _ (below-met (slot_step_clauses ring plan O slot) (length (steps_of plan slot)) h k l)

abbrev slots_of : RingValue → List Planned → Test → ℕ → List Guard
slots_of ring plan O p = below (λ i. slot_clauses ring plan O (record { partition = p; index = i })) ring.n

part-met : (ring : RingValue) (plan : List Planned) (O : Test) → first_failing (below (partition_clauses ring plan O) ring.q) ≡ None → (p : ℕ) → p < ring.q → (first_failing (slots_of ring plan O p) ≡ None) × (first_failing (steps_clauses (step_clauses ring plan O p) 0 plan) ≡ None)
part-met ring plan O h p l = parted (slots_of ring plan O p) (steps_clauses (step_clauses ring plan O p) 0 plan) (below-met (partition_clauses ring plan O) ring.q h p l)

pub parts-held : (ring : RingValue) (plan : List Planned) (O : Test) (a : Missed) → ((p : ℕ) → p < ring.q → HoldsBut a ring plan O p) → Parts ring plan O a
parts-held ring plan O a h = record {
  staged = λ slot p i k l. (slot-met ring plan O slot (own slot p i) k l).0;
  ordered = λ slot p i k l. (slot-met ring plan O slot (own slot p i) k l).1;
  steps = λ p l n s at. (h p l).steps n s at;
}
  where
    own : (slot : Slot) → slot.partition < ring.q → slot.index < ring.n → first_failing (slot_clauses ring plan O slot) ≡ None
    own slot p i = below-met (λ (i : ℕ). slot_clauses ring plan O (record { partition = slot.partition; index = i })) ring.n (h slot.partition p).slots slot.index i

parts-met : (ring : RingValue) (plan : List Planned) (O : Test) → first_failing (below (partition_clauses ring plan O) ring.q) ≡ None → Parts ring plan O nothing
parts-met ring plan O h = parts-held ring plan O nothing (λ p l.
    let b = part-met ring plan O h p l in
    record { slots = b.0; steps = λ n s at. none-holds nothing (step_clauses ring plan O p n s) (clauses-met (step_clauses ring plan O p) plan b.1 n s at) })

parts-all : (ring : RingValue) (plan : List Planned) (O : Test) → Parts ring plan O nothing → first_failing (below (partition_clauses ring plan O) ring.q) ≡ None
parts-all ring plan O h =
    below-all (partition_clauses ring plan O) ring.q (λ p lp.
    together (slots_of ring plan O p) (steps_clauses (step_clauses ring plan O p) 0 plan)
    (below-all (λ (i : ℕ). slot_clauses ring plan O (record { partition = p; index = i })) ring.n (λ i li.
    let slot : Slot = record { partition = p; index = i } in
    below-all (slot_step_clauses ring plan O slot) (length (steps_of plan slot)) (λ k lk.
    two-all (is_staged plan (stage ring plan slot k) (steps_of plan slot) k) (orders plan O slot k) _ _ (h.staged slot lp li k lk) (h.ordered slot lp li k lk))))
    (clauses-all (step_clauses ring plan O p) plan (λ n s at. none-fails (step_clauses ring plan O p n s) (h.steps p lp n s at))))

abbrev node_at : RingValue → List Planned → Cert → Test → ℕ → List Guard
node_at ring plan cert O x = node_clauses ring plan cert O (record { 0 = x })

-- ---- side by side

sides-met : (f : Side → List Guard) → first_failing (each_side f) ≡ None → (side : Side) → first_failing (f side) ≡ None
sides-met f h Both = (parted (f Both) (f Take ++ f Give) h).0
sides-met f h Take = (parted (f Take) (f Give) (parted (f Both) (f Take ++ f Give) h).1).0
sides-met f h Give = (parted (f Take) (f Give) (parted (f Both) (f Take ++ f Give) h).1).1

sides-all : (f : Side → List Guard) → ((side : Side) → first_failing (f side) ≡ None) → first_failing (each_side f) ≡ None
sides-all f h = together (f Both) (f Take ++ f Give) (h Both) (together (f Take) (f Give) (h Take) (h Give))

abbrev covers : RingValue → List Planned → Cert → NodeId → List Guard
covers ring plan cert x = each_side (side_covers ring plan cert x)

abbrev fews : RingValue → Cert → NodeId → List Guard
fews ring cert x = each_side (side_count ring cert x)

node-met : (ring : RingValue) (plan : List Planned) (cert : Cert) (O : Test) → first_failing (below (node_at ring plan cert O) (length ring.nodes)) ≡ None → (x : NodeId) → x.0 < length ring.nodes
    → (first_failing (steps_clauses (retire_clauses ring plan O x) 0 plan) ≡ None) × (first_failing (chains_clauses ring plan O x 0 cert.chains) ≡ None) × (first_failing (covers ring plan cert x) ≡ None) × (first_failing (fews ring cert x) ≡ None)
node-met ring plan cert O h x l =
    let a = parted (steps_clauses (retire_clauses ring plan O x) 0 plan) (chains_clauses ring plan O x 0 cert.chains ++ (covers ring plan cert x ++ fews ring cert x)) (below-met (node_at ring plan cert O) (length ring.nodes) h x.0 l) in
    let b = parted (chains_clauses ring plan O x 0 cert.chains) (covers ring plan cert x ++ fews ring cert x) a.1 in
    let c = parted (covers ring plan cert x) (fews ring cert x) b.1 in
    (a.0, b.0, c.0, c.1)

pub nodes-met : (ring : RingValue) (plan : List Planned) (cert : Cert) (O : Test) → first_failing (below (node_at ring plan cert O) (length ring.nodes)) ≡ None → Nodes ring plan cert O
nodes-met ring plan cert O h = record {
  retired = λ x l n s at. clauses-met (retire_clauses ring plan O x) plan (node-met ring plan cert O h x l).0 n s at;
  chains = λ x l. (node-met ring plan cert O h x l).1;
  cover = λ x l side has_it n s at.
      let met_here = sides-met (side_covers ring plan cert x) (node-met ring plan cert O h x l).2 side in
      clauses-met (cover_clauses ring plan (chains_from x.0 side cert.chains) x side) plan (asked-met (has_side ring x side) (steps_clauses (cover_clauses ring plan (chains_from x.0 side cert.chains) x side) 0 plan) met_here has_it) n s at;
  few = λ x l side. (met (is_few ring x side (length (chains_from x.0 side cert.chains))) (TooManyChains x.0) None (sides-met (side_count ring cert x) (node-met ring plan cert O h x l).3 side)).0;
}

nodes-all : (ring : RingValue) (plan : List Planned) (cert : Cert) (O : Test) → Nodes ring plan cert O → first_failing (below (node_at ring plan cert O) (length ring.nodes)) ≡ None
nodes-all ring plan cert O h =
    below-all (node_at ring plan cert O) (length ring.nodes) (λ k l.
    let x : NodeId = record { 0 = k } in
    together (steps_clauses (retire_clauses ring plan O x) 0 plan) (chains_clauses ring plan O x 0 cert.chains ++ (covers ring plan cert x ++ fews ring cert x))
    (clauses-all (retire_clauses ring plan O x) plan (h.retired x l))
    (together (chains_clauses ring plan O x 0 cert.chains) (covers ring plan cert x ++ fews ring cert x) (h.chains x l)
    (together (covers ring plan cert x) (fews ring cert x)
    (sides-all (side_covers ring plan cert x) (λ side. asked-all (has_side ring x side) (steps_clauses (cover_clauses ring plan (chains_from x.0 side cert.chains) x side) 0 plan) (λ has_it. clauses-all (cover_clauses ring plan (chains_from x.0 side cert.chains) x side) plan (h.cover x l side has_it))))
    (sides-all (side_count ring cert x) (λ side. push (is_few ring x side (length (chains_from x.0 side cert.chains))) (TooManyChains x.0) None (h.few x l side) refl)))))

-- ---- a step's own clauses

mirror-met : (ring : RingValue) (plan : List Planned) (O : Test) (a : Missed) → Suits ring plan → Parts ring plan O a → (n : ℕ) (slot : Slot) (x : NodeId) → step_at plan n ≡ Some (Mirror slot x) → (a.left ≡ false → has_left ring plan O n slot x ≡ true) × (a.joined ≡ false → has_joined ring plan O n x ≡ true)
mirror-met ring plan O a suits h n slot x at =
    let w = step-within ring plan suits slot n (Mirror slot x) at (slot-same slot) in
    held-two a (has_left ring plan O n slot x) (has_joined ring plan O n x) (SharedInPlan n) (NotJoined n)
    (held-asked a (slot.partition == slot.partition) ((has_left ring plan O n slot x, SharedInPlan n) ∷ (has_joined ring plan O n x, NotJoined n) ∷ []) (h.steps slot.partition w.0 n (Mirror slot x) at) (same slot.partition))

abbrev reads_enough : RingValue → List ℕ → Bool
reads_enough ring from = all_different from && nat_le ring.r (length from)

copy-met : (ring : RingValue) (plan : List Planned) (O : Test) (a : Missed) → Suits ring plan → Parts ring plan O a → (n : ℕ) (slot : Slot) (from : List ℕ) → step_at plan n ≡ Some (Copy slot (Slots from)) → (a.sources ≡ false → reads_enough ring from ≡ true) × (a.settled ≡ false → is_settled plan O n slot from ≡ true)
copy-met ring plan O a suits h n slot from at =
    let w = step-within ring plan suits slot n (Copy slot (Slots from)) at (slot-same slot) in
    held-two a (reads_enough ring from) (is_settled plan O n slot from) (BadSource n) (MovingSource n)
    (held-asked a (slot.partition == slot.partition) ((reads_enough ring from, BadSource n) ∷ (is_settled plan O n slot from, MovingSource n) ∷ []) (h.steps slot.partition w.0 n (Copy slot (Slots from)) at) (same slot.partition))

retire-met : (ring : RingValue) (plan : List Planned) (O : Test) (a : Missed) → Parts ring plan O a → a.dropped ≡ false → (n : ℕ) (x : NodeId) (p : ℕ) → p < ring.q → step_at plan n ≡ Some (Retire x) → has_dropped ring plan O p n x ≡ true
retire-met ring plan O a h off n x p l at =
    held-one a (has_dropped ring plan O p n x) (RetiredInUse n) (and_parts (has_dropped ring plan O p n x || a.dropped) true (h.steps p l n (Retire x) at)).0 off

leaves-joined : (ring : RingValue) (plan : List Planned) (cert : Cert) (O : Test) → Suits ring plan → Nodes ring plan cert O → (n : ℕ) (x : NodeId) → step_at plan n ≡ Some (Retire x) → has_joined ring plan O n x ≡ true
leaves-joined ring plan cert O suits h n x at =
    let none = asked-met (x.0 == x.0) ((has_joined ring plan O n x, NotJoined n) ∷ []) (h.retired x (retires-within ring plan suits n x at) n (Retire x) at) (same x.0) in
    (met (has_joined ring plan O n x) (NotJoined n) None none).0

-- ---- no clause fails

chains-good : (ring : RingValue) (plan : List Planned) (cert : Cert) (O : Test) → Nodes ring plan cert O → (x : NodeId) → x.0 < length ring.nodes → AllGood ring plan O x cert.chains
chains-good ring plan cert O h x l = λ side. chains-met ring plan O x side 0 cert.chains (h.chains x l)

covered-met : (ring : RingValue) (plan : List Planned) (cert : Cert) (O : Test) → Nodes ring plan cert O → (x : NodeId) (side : Side) (n : ℕ) → x.0 < length ring.nodes → has_side ring x side ≡ true → is_among x (parties_on ring plan side n) ≡ true → in_some n (chains_from x.0 side cert.chains) ≡ true
covered-met ring plan cert O h x side n l has_it among =
    let s = party-step ring plan side n x among in
    let none = asked-met (is_among x (parties_on ring plan side n)) ((in_some n (chains_from x.0 side cert.chains), CoverMissing x.0 n) ∷ []) (h.cover x l side has_it n s.0 s.1) among in
    (met (in_some n (chains_from x.0 side cert.chains)) (CoverMissing x.0 n) None none).0

-- ---- the parts of what a plan must meet, each from its own clauses

pub turn-met : (ring : RingValue) (plan : List Planned) (O : Test) (a : Missed) → Suits ring plan → Parts ring plan O a → AreInTurn ring plan (holds O)
turn-met ring plan O a suits h = record {
  suits = suits;
  staged = λ slot k l. (let w = slot-within ring plan suits slot (omega arith) in h.staged slot w.0 w.1 k l);
  in_order = λ slot k l. (let w = slot-within ring plan suits slot (omega arith) in order-met (λ (i : ℕ). slice_index (steps_of plan slot) i) O k (h.ordered slot w.0 w.1 (suc k) l));
}

pub sources-met : (ring : RingValue) (plan : List Planned) (O : Test) (a : Missed) → Suits ring plan → Parts ring plan O a → a.sources ≡ false → ReadEnough ring plan
sources-met ring plan O a suits h off n slot from at =
    let b = and_parts (all_different from) (nat_le ring.r (length from)) ((copy-met ring plan O a suits h n slot from at).0 off) in
    (b.0, leb-true ring.r (length from) b.1)

pub all_settled-met : (ring : RingValue) (plan : List Planned) (O : Test) (a : Missed) → Suits ring plan → Parts ring plan O a → a.settled ≡ false → AreSettled plan (holds O)
all_settled-met ring plan O a suits h off n m j slot from at = settled-met plan O n slot from ((copy-met ring plan O a suits h n slot from at).1 off) m j

pub all_left-met : (ring : RingValue) (plan : List Planned) (O : Test) (a : Missed) → IsRing ring → Suits ring plan → Parts ring plan O a → a.left ≡ false → HaveLeft ring plan (holds O)
all_left-met ring plan O a is suits h off = record {
  first = λ t j slot x at ne owns.
      let w = owner-within ring is (sibling slot j) x owns in
      left_first-met ring plan O t slot x ((mirror-met ring plan O a suits h t slot x at).0 off) j w.1 ne owns;
  later = λ t b j slot x at ne lt before.
      let w = step-within ring plan suits (sibling slot j) b (Mirror (sibling slot j) x) before (slot-same (sibling slot j)) in
      left_later-met ring plan O t slot x ((mirror-met ring plan O a suits h t slot x at).0 off) j w.1 ne b lt before;
}

pub members-met : (ring : RingValue) (plan : List Planned) (O : Test) (a : Missed) → IsRing ring → Suits ring plan → Parts ring plan O a → a.joined ≡ false → a.dropped ≡ false → ServeAsMembers ring plan (holds O)
members-met ring plan O a is suits h joined off = record {
  joined = λ t slot x at. joined-met ring plan O t x ((mirror-met ring plan O a suits h t slot x at).1 joined);
  dropped_first = λ t slot x at owns.
      let w = owner-within ring is slot x owns in
      dropped_first-met ring plan O t slot x (retire-met ring plan O a h off t x slot.partition w.0 at) w.1 owns;
  dropped_later = λ t b slot x at before.
      let w = step-within ring plan suits slot b (Mirror slot x) before (slot-same slot) in
      dropped_later-met ring plan O t slot x (retire-met ring plan O a h off t x slot.partition w.0 at) w.1 b before;
}

pub all_covered-met : (ring : RingValue) (plan : List Planned) (cert : Cert) (O : Test) → Nodes ring plan cert O → AreCovered ring plan (holds O) (λ x side. chains_from x side cert.chains)
all_covered-met ring plan cert O g x side a e =
    let l = allowance-within ring x side a e in
    let has_it : has_side ring (record { 0 = x }) side ≡ true = rw e refl in
    record {
      few = few-met ring (record { 0 = x }) side (length (chains_from x side cert.chains)) a (g.few (record { 0 = x }) l side) e;
      linked = (chains-good ring plan cert O g (record { 0 = x }) l side).0.0;
      covered = λ n among. covered-met ring plan cert O g (record { 0 = x }) side n l has_it among;
    }

meets-met : (ring : RingValue) (plan : List Planned) (cert : Cert) (O : Test) → IsRing ring → Suits ring plan → Parts ring plan O nothing → Nodes ring plan cert O → Meets ring plan (holds O) (λ x side. chains_from x side cert.chains)
meets-met ring plan cert O is suits h g = record {
  in_turn = turn-met ring plan O nothing suits h;
  sources = sources-met ring plan O nothing suits h refl;
  settled = all_settled-met ring plan O nothing suits h refl;
  left = all_left-met ring plan O nothing is suits h refl;
  members = members-met ring plan O nothing is suits h refl refl;
  retired = λ t x at. joined-met ring plan O t x (leaves-joined ring plan cert O suits g t x at);
  covers = all_covered-met ring plan cert O g;
}

-- ---- where the plan is certified

step-all : (ring : RingValue) (plan : List Planned) (O : Test) (chains : ℕ → Side → List (List ℕ)) → Meets ring plan (holds O) chains → (p n : ℕ) (s : Step) → step_at plan n ≡ Some s → first_failing (step_clauses ring plan O p n s) ≡ None
step-all ring plan O chains h p n (Join x) at = refl
step-all ring plan O chains h p n (Mirror slot x) at =
    asked-all (slot.partition == p) ((has_left ring plan O n slot x, SharedInPlan n) ∷ (has_joined ring plan O n x, NotJoined n) ∷ []) (λ _.
    two-all (has_left ring plan O n slot x) (has_joined ring plan O n x) (SharedInPlan n) (NotJoined n)
    (left-all ring plan O n slot x (λ j l ne owns. h.left.first n j slot x at ne owns) (λ j l ne b lt before. h.left.later n b j slot x at ne lt before))
    (joined-all ring plan O n x (h.members.joined n slot x at)))
step-all ring plan O chains h p n (Copy slot Owner) at = refl
step-all ring plan O chains h p n (Copy slot (Slots from)) at =
    asked-all (slot.partition == p) ((reads_enough ring from, BadSource n) ∷ (is_settled plan O n slot from, MovingSource n) ∷ []) (λ _.
    let s = h.sources n slot from at in
    two-all (reads_enough ring from) (is_settled plan O n slot from) (BadSource n) (MovingSource n)
    (and_from (all_different from) (nat_le ring.r (length from)) s.0 (le-leb ring.r (length from) s.1))
    (settled-all plan O n slot from (λ m j some switch. h.settled n m j slot from at some switch)))
step-all ring plan O chains h p n (Switch slot) at = refl
step-all ring plan O chains h p n (Drop slot x) at = refl
step-all ring plan O chains h p n (Retire x) at =
    push (has_dropped ring plan O p n x) (RetiredInUse n) None
    (dropped-all ring plan O p n x (λ s owns. h.members.dropped_first n s x at owns) (λ b s before. h.members.dropped_later n b s x at before)) refl

parts-from : (ring : RingValue) (plan : List Planned) (O : Test) (chains : ℕ → Side → List (List ℕ)) → Meets ring plan (holds O) chains → Parts ring plan O nothing
parts-from ring plan O chains h = record {
  staged = λ slot p i k l. h.in_turn.staged slot k l;
  ordered = λ slot p i k l. order-all (λ (i : ℕ). slice_index (steps_of plan slot) i) O k (λ j e.
      let m : suc j < length (steps_of plan slot) = omega arith in
      rw (← e) (h.in_turn.in_order slot j m));
  steps = λ p l n s at. none-holds nothing (step_clauses ring plan O p n s) (step-all ring plan O chains h p n s at);
}

retired-all : (ring : RingValue) (plan : List Planned) (O : Test) (chains : ℕ → Side → List (List ℕ)) → Meets ring plan (holds O) chains → (x : NodeId) (n : ℕ) (s : Step) → step_at plan n ≡ Some s → first_failing (retire_clauses ring plan O x n s) ≡ None
retired-all ring plan O chains h x n s at =
    asked-all (is_retire_of x.0 s) ((has_joined ring plan O n x, NotJoined n) ∷ []) (λ retires.
    let e : s ≡ Retire x = retire-is x s retires in
    let here : step_at plan n ≡ Some (Retire x) = rw e at at in
    push (has_joined ring plan O n x) (NotJoined n) None (joined-all ring plan O n x (h.retired n x here)) refl)

-- the chains of a certified plan
good-from : (ring : RingValue) (plan : List Planned) (cert : Cert) → IsCertified ring plan cert → (x : NodeId) → x.0 < length ring.nodes → AllGood ring plan (ordered_by plan cert) x cert.chains
good-from ring plan cert h x l = λ side. by side (allowance_of ring x.0 side) refl
  where
    by : (side : Side) (o : Option ℕ) → allowance_of ring x.0 side ≡ o → AreGood ring plan (ordered_by plan cert) x side (chains_from x.0 side cert.chains) × IsAllowed ring x side (chains_from x.0 side cert.chains)
    by side (Some a) e = (((h.meets.covers x.0 side a e).linked, h.entries x.0 side a e), λ none. h.sides x.0 side l none)
    by side None e = (let none = h.sides x.0 side l e in rw none ((tt, λ n is. absurd cc), λ f. refl))

-- a side that the node has
some-allowed : (o : Option ℕ) → is_some o ≡ true → (a : ℕ) × (o ≡ Some a)
some-allowed None h = absurd cc
some-allowed (Some a) h = (a, refl)

nodes-from : (ring : RingValue) (plan : List Planned) (cert : Cert) → IsCertified ring plan cert → Nodes ring plan cert (ordered_by plan cert)
nodes-from ring plan cert h = record {
  retired = λ x l n s at. retired-all ring plan (ordered_by plan cert) (λ x side. chains_from x side cert.chains) h.meets x n s at;
  chains = λ x l. chains-all ring plan (ordered_by plan cert) x 0 cert.chains (good-from ring plan cert h x l);
  cover = λ x l side has_it n s at. asked-all (is_among x (parties_on ring plan side n)) ((in_some n (chains_from x.0 side cert.chains), CoverMissing x.0 n) ∷ []) (λ among.
      push (in_some n (chains_from x.0 side cert.chains)) (CoverMissing x.0 n) None (let a = some-allowed (allowance_of ring x.0 side) has_it in (h.meets.covers x.0 side a.0 a.1).covered n among) refl);
  few = λ x l side. few-all ring x side (length (chains_from x.0 side cert.chains)) (λ a e. (h.meets.covers x.0 side a e).few);
}

-- ---- both ways

abbrev parts_of : RingValue → List Planned → Cert → List Guard
parts_of ring plan cert = below (partition_clauses ring plan (ordered_by plan cert)) ring.q

abbrev nodes_of : RingValue → List Planned → Cert → List Guard
nodes_of ring plan cert = below (node_at ring plan cert (ordered_by plan cert)) (length ring.nodes)

pub certified-from : (ring : RingValue) (plan : List Planned) (cert : Cert) → IsRing ring → Suits ring plan → first_refusal ring plan cert ≡ None → IsCertified ring plan cert
certified-from ring plan cert is suits none =
    let a = parted (fact_clauses plan 0 cert.facts) (parts_of ring plan cert ++ nodes_of ring plan cert) none in
    let b = parted (parts_of ring plan cert) (nodes_of ring plan cert) a.1 in
    let p = parts-met ring plan (ordered_by plan cert) b.0 in
    let g = nodes-met ring plan cert (ordered_by plan cert) b.1 in
    record {
      facts = facts-met plan 0 cert.facts a.0;
      meets = meets-met ring plan cert (ordered_by plan cert) is suits p g;
      entries = λ x side a e. (chains-good ring plan cert (ordered_by plan cert) g (record { 0 = x }) (allowance-within ring x side a e) side).0.1;
      sides = λ x side l none. (chains-good ring plan cert (ordered_by plan cert) g (record { 0 = x }) l side).1 none;
    }

pub none-from : (ring : RingValue) (plan : List Planned) (cert : Cert) → IsCertified ring plan cert → first_refusal ring plan cert ≡ None
none-from ring plan cert h =
    together (fact_clauses plan 0 cert.facts) (parts_of ring plan cert ++ nodes_of ring plan cert) (facts-all plan 0 cert.facts h.facts)
    (together (parts_of ring plan cert) (nodes_of ring plan cert)
    (parts-all ring plan (ordered_by plan cert) (parts-from ring plan (ordered_by plan cert) (λ x side. chains_from x side cert.chains) h.meets))
    (nodes-all ring plan cert (ordered_by plan cert) (nodes-from ring plan cert h)))
