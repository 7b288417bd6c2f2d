-- What is known of a world is known of what it hands on.
use Rattle.std.proofs.Common.{◌≡◌, inl, inr, ◌∙◌, ℕ, zero, suc, ◌<◌, true, false, List, [], ◌∷◌, length, map, refl, sym, ap, subst, arith, ltb-true}
use Rattle.std.specs.Prelude.{nat_lt, Option, Some, None, unwrap_or}
use Rattle.std.proofs.lemmas.Bool.{or_cases, or_left, or_right}
use Rattle.ring_names.specs.Lists.{has}
use Rattle.ring_names.specs.declared.ids.NodeId.{NodeId}
use Rattle.ring_names.specs.declared.ids.Slot.{Slot}
use Rattle.ring_table.specs.Value.{RingValue}
use Rattle.plan_text.specs.declared.step.Planned.{Planned}
use Rattle.plan_text.specs.Steps.{steps_of}
use Rattle.plan_stage.specs.Stage.{opening, stage}
use Rattle.plan_stage.proofs.Truth.{list_all-met}
use Rattle.plan_runs.specs.World.{PutRecord, World, is_acked, key_of_put, seen_of, slot_at, stage_now}
use Rattle.plan_runs.specs.Versions.{put_slot, slot_has, some_hinted}
use Rattle.plan_runs.specs.Guards.{is_current}
use Rattle.plan_runs.specs.Reached.{Reached, IsPutOf, IsPutForGet, IsGetForPut}
use Rattle.plan_runs.proofs.Changed.{read_at}
use Rattle.plan_runs.proofs.Groups.{InGroup}
use Rattle.plan_runs.proofs.Passing.{some_found, some_is}
use Rattle.plan_runs.proofs.Lasting.{Extends, names_ended, succeeds_stays}
use Rattle.plan_runs.proofs.Places.{partition_within}
use Rattle.plan_check.specs.Firm.{FirmSlots, Holding, IsFirm, IsFirmEnough}
use Rattle.plan_check.proofs.Apart.{count_zero}
use Rattle.plan_check.proofs.Apart.{Inv}
use Rattle.plan_check.proofs.Entering.{Apart}
use Rattle.plan_check.proofs.Fresh.{SeesPut, Watched}
use Rattle.plan_check.proofs.Mirrored.{Known}
use Rattle.plan_check.proofs.Standing.{held_exists, successor_stays}
use Rattle.plan_goal.specs.Sequence.{HasNumbers, HasOwners, handed_on, without_tickets}

-- ---- puts without their tickets

as_many : (ps : List PutRecord) → length (map without_tickets ps) ≡ length ps
as_many [] = refl
as_many (x ∷ ps) = ap suc (as_many ps)

-- what is read of a put, but for its tickets, is the same
same_part : {A : Type 0} (read : PutRecord → A) (d : A) → ((x : PutRecord) → read (without_tickets x) ≡ read x) → (ps : List PutRecord) (v : ℕ)
    → read_at read d (map without_tickets ps) v ≡ read_at read d ps v
same_part read d same [] v = refl
same_part read d same (x ∷ ps) zero = same x
same_part read d same (x ∷ ps) (suc v) = same_part read d same ps v

no_ticket : (ps : List PutRecord) (v i : ℕ) → read_at (λ (x : PutRecord). x.ticket i) None (map without_tickets ps) v ≡ None
no_ticket [] v i = refl
no_ticket (x ∷ ps) zero i = refl
no_ticket (x ∷ ps) (suc v) i = no_ticket ps v i

same_key : (w : World) (v : ℕ) → key_of_put (handed_on w) v ≡ key_of_put w v
same_key w v = same_part (λ x. x.key) [] (λ x. refl) w.puts v

same_seen : (w : World) (v : ℕ) → seen_of (handed_on w) v ≡ seen_of w v
same_seen w v = same_part (λ x. x.seen) [] (λ x. refl) w.puts v

pub same_acked : (w : World) (v : ℕ) → is_acked (handed_on w) v ≡ is_acked w v
same_acked w v = same_part (λ x. x.acked) false (λ x. refl) w.puts v

-- puts and gets stay what they are
pub handed_extends : (w : World) → Extends w (handed_on w)
handed_extends w = record {
  puts = (let e = as_many w.puts in omega arith);
  key = λ v l. same_key w v;
  writer = λ v l. same_part (λ x. x.writer) 0 (λ x. refl) w.puts v;
  value = λ v l. same_part (λ x. x.value) [] (λ x. refl) w.puts v;
  seen = λ v l. same_seen w v;
  acked = λ v e. same_acked w v ∙ e;
  ended = λ g e. e;
  replied = λ g v e. refl;
}

-- ---- one plan takes the place of another

-- the owner of a slot, and no mirror
opens : (next : RingValue) (more : List Planned) (w : World) (slot : Slot) → stage_now next more (handed_on w) slot ≡ opening next slot
opens next more w slot = ap (stage next more slot) (count_zero (steps_of more slot))

same_owner : (ring next : RingValue) (plan more : List Planned) (w : World) → HasOwners ring plan w next → (p i : ℕ) → p < ring.q → i < ring.n
    → (stage_now next more (handed_on w) (slot_at p i)).owner ≡ (stage_now ring plan w (slot_at p i)).owner
same_owner ring next plan more w o p i l m =
    ap (λ a. a.owner) (opens next more w (slot_at p i)) ∙ ap (λ (x : Option NodeId). unwrap_or x (record { 0 = 0 })) (o p i l m)

-- who serves a slot now did so before
in_group_before : (ring next : RingValue) (plan more : List Planned) (w : World) → HasOwners ring plan w next → (p i x : ℕ) → p < ring.q → i < ring.n
    → InGroup next more (handed_on w) (slot_at p i) x → InGroup ring plan w (slot_at p i) x
in_group_before ring next plan more w o p i x l m (inl (inl e)) = inl (inl (e ∙ ap (λ (y : NodeId). y.0) (same_owner ring next plan more w o p i l m)))
in_group_before ring next plan more w o p i x l m (inl (inr e)) = absurd (let f : None ≡ Some (record { 0 = x }) = sym (ap (λ a. a.mirror) (opens next more w (slot_at p i))) ∙ e in cc)
in_group_before ring next plan more w o p i x l m (inr (v, below, h)) = inr (v, (let e = as_many w.puts in omega arith), h)

pub handed_apart : (ring next : RingValue) (plan more : List Planned) (w : World) → HasNumbers ring next → HasOwners ring plan w next → Apart ring plan w → Apart next more (handed_on w)
handed_apart ring next plan more w t o a p i j x l m n ne g h =
    let l' : p < ring.q = (let e = t.q in omega arith) in
    let m' : i < ring.n = (let e = t.n in omega arith) in
    let n' : j < ring.n = (let e = t.n in omega arith) in
    a p i j x l' m' n' ne (in_group_before ring next plan more w o p i x l' m' g) (in_group_before ring next plan more w o p j x l' n' h)

same_put_slot : (ring next : RingValue) (w : World) → next.q ≡ ring.q → (v i : ℕ) → put_slot next (handed_on w) v i ≡ put_slot ring w v i
same_put_slot ring next w q v i = rw (q, same_key w v) refl

put_of : (ring next : RingValue) (w : World) → next.q ≡ ring.q → (slot : Slot) (v : ℕ) → IsPutOf ring w slot v → IsPutOf next (handed_on w) slot v
put_of ring next w q slot v (below, at) = ((let e = as_many w.puts in omega arith), ap (λ (s : Slot). s.partition) (same_put_slot ring next w q v slot.index) ∙ at)

put_for_get : (w : World) (g v : ℕ) → IsPutForGet w g v → IsPutForGet (handed_on w) g v
put_for_get w g v (below, of) = ((let e = as_many w.puts in omega arith), rw (same_key w v) of)

get_for_put : (w : World) (u g : ℕ) → IsGetForPut w u g → IsGetForPut (handed_on w) u g
get_for_put w u g (below, of, ended) = (below, rw (same_key w u) of, ended)

handed_reached : (ring next : RingValue) (plan more : List Planned) (w : World) → HasNumbers ring next → Reached ring plan w → Reached next more (handed_on w)
handed_reached ring next plan more w t r = record {
  closed = λ a n e d. absurd cc;
  copies = record {
    copies = λ n e. absurd cc;
    ready = λ n e. absurd cc;
    unfinished = λ n e. absurd cc;
    marks = λ n c e. absurd cc;
    copied = λ n c e d l. absurd cc;
  };
  tickets = λ v i g e. absurd (let f : None ≡ Some g = sym (no_ticket w.puts v i) ∙ e in cc);
  stored = λ x slot v e. put_of ring next w t.q slot v (r.stored x slot v e);
  hinted = λ x slot v e. put_of ring next w t.q slot v (r.hinted x slot v e);
  found = λ g i v e. put_for_get w g v (r.found g i v e);
  replied = λ g v e. put_for_get w g v (r.replied g v e);
  seen = λ u g e. get_for_put w u g (r.seen u g (ap (has g) (sym (same_seen w u)) ∙ e));
  spent = (let e = t.loss in let s = r.spent in omega arith);
}

pub handed_inv : (ring next : RingValue) (plan more : List Planned) (w : World) → HasNumbers ring next → HasOwners ring plan w next → Inv ring plan w → Inv next more (handed_on w)
handed_inv ring next plan more w t o i = record { reached = handed_reached ring next plan more w t i.reached; apart = λ l. handed_apart ring next plan more w t o (i.apart (let e = t.loss in omega arith)) }

-- ---- what is held

slot_keeps : (ring next : RingValue) (plan more : List Planned) (w : World) → HasNumbers ring next → HasOwners ring plan w next → (p i a : ℕ) → p < ring.q → i < ring.n
    → slot_has ring plan w (slot_at p i) a ≡ true → slot_has next more (handed_on w) (slot_at p i) a ≡ true
slot_keeps ring next plan more w t o p i a l m h = elim (or_cases (w.stored (stage_now ring plan w slot).owner.0 slot a) (some_hinted ring w slot a) h) [
  | inl e ↦ or_left (w.stored (stage_now next more (handed_on w) slot).owner.0 slot a) (some_hinted next (handed_on w) slot a) (ap (λ (x : NodeId). w.stored x.0 slot a) (same_owner ring next plan more w o p i l m) ∙ e)
  | inr e ↦ or_right (w.stored (stage_now next more (handed_on w) slot).owner.0 slot a) (some_hinted next (handed_on w) slot a) (kept e)
]
  where
    slot : Slot
    slot = slot_at p i

    -- a node that keeps a hint is declared by the next ring too
    kept : some_hinted ring w slot a ≡ true → some_hinted next (handed_on w) slot a ≡ true
    kept e =
        let f = some_found (length ring.nodes) (λ (x : ℕ). w.hinted x slot a) e in
        let few = t.nodes in
        let below = f.1 in
        some_is (length next.nodes) (λ (x : ℕ). w.hinted x slot a) f.0 (omega arith) f.2

-- a slot with a firm put goes on to have it; no chunk is given to a mirror
firm_still : (ring next : RingValue) (plan more : List Planned) → Known ring plan → (w : World) → HasNumbers ring next → HasOwners ring plan w next → Reached ring plan w → (v i : ℕ) → i < ring.n
    → IsFirm ring plan w v (put_slot ring w v i) → IsFirm next more (handed_on w) v (put_slot next (handed_on w) v i)
firm_still ring next plan more k w t o r v i l f =
    subst (λ (s : Slot). IsFirm next more (handed_on w) v s) (sym (same_put_slot ring next w t.q v i)) (
      successor_stays ring plan w (handed_on w) r (handed_extends w) v (slot_has ring plan w slot) (slot_has next more (handed_on w) slot)
          (λ a e. (held_exists ring plan w r slot a e, slot_keeps ring next plan more w t o slot.partition i a (partition_within ring.q (key_of_put w v) k.is_ring.space) l e)) f.0,
      λ given. absurd (let off = given.3 in cc),
    )
  where
    slot : Slot
    slot = put_slot ring w v i

slots_firm : (ring next : RingValue) (plan more : List Planned) → Known ring plan → (w : World) → HasNumbers ring next → HasOwners ring plan w next → Reached ring plan w → (v : ℕ) (slots : List ℕ)
    → FirmSlots ring plan w v slots → FirmSlots next more (handed_on w) v slots
slots_firm ring next plan more k w t o r v slots firm = record {
  different = firm.different;
  within = rw t.n firm.within;
  firm = λ i h. firm_still ring next plan more k w t o r v i (ltb-true i ring.n (list_all-met (λ (j : ℕ). nat_lt j ring.n) slots firm.within i h)) (firm.firm i h);
}

firm_enough : (ring next : RingValue) (plan more : List Planned) → Known ring plan → (w : World) → HasNumbers ring next → HasOwners ring plan w next → Reached ring plan w → (v : ℕ)
    → IsFirmEnough ring plan w v → IsFirmEnough next more (handed_on w) v
firm_enough ring next plan more k w t o r v (slots, firm, many) = (slots, slots_firm ring next plan more k w t o r v slots firm, (let e = t.w in omega arith))

pub handed_holding : (ring next : RingValue) (plan more : List Planned) → Known ring plan → (w : World) → HasNumbers ring next → HasOwners ring plan w next → Inv ring plan w → Holding ring plan w
    → Holding next more (handed_on w)
handed_holding ring next plan more k w t o i h = record {
  tickets = λ v j l e. absurd (let f : is_current next more (handed_on w) v j ≡ false = rw (no_ticket w.puts v j, is_current) refl in cc);
  acked = λ v e. firm_enough ring next plan more k w t o i.reached v (h.acked v (sym (same_acked w v) ∙ e));
}

-- a get goes on to be watched
pub handed_watched : (ring next : RingValue) (plan more : List Planned) → Known ring plan → (w : World) → HasNumbers ring next → HasOwners ring plan w next → Reached ring plan w → (v g : ℕ)
    → Watched ring plan w v g → Watched next more (handed_on w) v g
handed_watched ring next plan more k w t o r v g c = record {
  exists = c.exists;
  key = c.key ∙ sym (same_key w v);
  acked = same_acked w v ∙ c.acked;
  slots = c.slots;
  firm = slots_firm ring next plan more k w t o r v c.slots c.firm;
  enough = (let e = t.w in let many = c.enough in omega arith);
  read = λ i h vs e. still vs (c.read i h vs e);
}
  where
    still : (vs : List ℕ) → SeesPut w v vs → SeesPut (handed_on w) v vs
    still vs f =
        let l : f.0 < length w.puts = f.2 in
        (f.0, f.1, (let e = as_many w.puts in omega arith), succeeds_stays w (handed_on w) (handed_extends w) (names_ended ring plan w r) f.0 v l f.3)
