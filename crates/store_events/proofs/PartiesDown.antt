-- The nodes of a copy that is ready and not finished. They are the slot's mirror now and the owners now of the
-- slots that the copy reads.
use Rattle.std.proofs.Common.{◌≡◌, inl, inr, ◌∙◌, ℕ, ◌+◌, ◌-◌, ◌<◌, ◌≤◌, Bool, true, false, cond, List, [], ◌∷◌, length, get_or, drop, map, refl, sym, ap, subst, arith, eqb-true, eq-eqb, ltb-true, lt-ltb, ltb-false}
use Rattle.std.specs.Prelude.{◌==◌, nat_lt, Option, Some, None, slice_get, option_map, option_and_then}
use Rattle.std.proofs.lemmas.Bool.{and_parts, or_right, and_from, cases_lt}
use Rattle.std.proofs.lemmas.List.{drop_more}
use Rattle.ring_names.specs.Lists.{has}
use Rattle.ring_names.specs.declared.ids.NodeId.{NodeId}
use Rattle.ring_names.specs.declared.ids.Slot.{Slot}
use Rattle.ring_names.specs.declared.refusal.Refusal.{Refusal}
use Rattle.ring_names.specs.declared.refusal.Refusal.TheVariants.{NodeDown}
use Rattle.ring_table.specs.Value.{RingValue}
use Rattle.plan_text.specs.declared.step.Source.{Source}
use Rattle.plan_text.specs.declared.step.Source.TheVariants.{Owner, Slots}
use Rattle.plan_text.specs.declared.step.Step.{Step}
use Rattle.plan_text.specs.declared.step.Step.TheVariants.{Copy}
use Rattle.plan_text.specs.declared.step.Planned.{Planned}
use Rattle.plan_text.specs.Steps.{steps_of}
use Rattle.plan_text.specs.Valid.{is_ring_slot, source_suits}
use Rattle.plan_stage.specs.declared.stage.Stage.{Stage}
use Rattle.plan_stage.specs.Stage.{stage, with_node}
use Rattle.plan_stage.specs.Parties.{stage_before, source_slots, owners_before, sources_of, target_of, with_target, parties}
use Rattle.plan_stage.specs.Each.{step_at, sibling}
use Rattle.plan_stage.specs.Clauses.{first_failing}
use Rattle.plan_stage.proofs.Truth.{slot-same, same, list_all-met}
use Rattle.plan_runs.specs.World.{World, slot_at, stage_now}
use Rattle.plan_runs.specs.Guards.{up_guard, parties_up}
use Rattle.plan_runs.specs.Reached.{Ready}
use Rattle.plan_check.proofs.Mirrored.{Known, known}
use Rattle.plan_check.proofs.Partakers.{own_count, owner_same}
use Rattle.store_parts.specs.declared.slots.SlotNow.{SlotNow}
use Rattle.store_parts.specs.Nodes.{is_up_at}
use Rattle.store_parts.proofs.NodesNow.{nodes_meet}
use Rattle.store_parts.proofs.StageGuards.{parties_kept}
use Rattle.store_parts.proofs.StageSuits.{step_suiting}
use Rattle.store_parts.specs.Kept.{Kept, Tells}
use Rattle.store_parts.proofs.StoreInWorld.{reached_of, suits_of}
use Rattle.store_events.specs.Parties.{owner_kept, mirror_kept, party_kept, lesser, with_down, least_down}
use Rattle.plan_stage.proofs.Holders.{has-from}

-- ---- the first of a list that is down

abbrev pub first_down : (ℕ → Bool) → List NodeId → Option NodeId
first_down up [] = None
first_down up (x ∷ xs) = cond (up x.0) (first_down up xs) (Some x)

-- the refusal that names it
pub refused_by : (up : ℕ → Bool) (xs : List NodeId) → first_failing (map (up_guard up) xs) ≡ option_map (λ (x : NodeId). NodeDown x.0) (first_down up xs)
refused_by up [] = refl
refused_by up (x ∷ xs) = by (up x.0) (refused_by up xs)
  where
    by : (b : Bool) → first_failing (map (up_guard up) xs) ≡ option_map (λ (y : NodeId). NodeDown y.0) (first_down up xs)
        → cond b (first_failing (map (up_guard up) xs)) (Some (NodeDown x.0)) ≡ option_map (λ (y : NodeId). NodeDown y.0) (cond b (first_down up xs) (Some x))
    by true e = e
    by false e = refl

-- ---- ascending lists

-- each node is above the one before it, and the first is above a
abbrev pub RiseAbove : ℕ → List NodeId → Type 0
RiseAbove a [] = Unit {0}
RiseAbove a (x ∷ xs) = (a < x.0) × RiseAbove x.0 xs

-- each node is above the one before it
abbrev pub Rise : List NodeId → Type 0
Rise [] = Unit {0}
Rise (x ∷ xs) = RiseAbove x.0 xs

-- a number that is neither below another number nor equal to that is above it
past : (m n : ℕ) → nat_lt m n ≡ false → (m == n) ≡ false → n < m
past m n f g = elim (cases_lt n m) [
  | inl h ↦ h
  | inr h ↦ absurd (
      let k = ltb-false m n f in
      let e : (m == n) ≡ true = eq-eqb m n (omega arith) in
      cc)
]

above_with : (a : ℕ) (x : NodeId) (xs : List NodeId) → a < x.0 → RiseAbove a xs → RiseAbove a (with_node x xs)
above_with a x [] l r = (l, tt)
above_with a x (y ∷ ys) l r = by (nat_lt x.0 y.0) (x.0 == y.0) refl refl (λ k. above_with y.0 x ys k r.1)
  where
    by : (b e : Bool) → nat_lt x.0 y.0 ≡ b → (x.0 == y.0) ≡ e → (y.0 < x.0 → RiseAbove y.0 (with_node x ys)) → RiseAbove a (cond b (x ∷ y ∷ ys) (cond e (y ∷ ys) (y ∷ with_node x ys)))
    by true e f g h = (l, (ltb-true x.0 y.0 f, r.1))
    by false true f g h = r
    by false false f g h = (r.0, h (past x.0 y.0 f g))

pub rise_with : (x : NodeId) (xs : List NodeId) → Rise xs → Rise (with_node x xs)
rise_with x [] r = tt
rise_with x (y ∷ ys) r = by (nat_lt x.0 y.0) (x.0 == y.0) refl refl
  where
    by : (b e : Bool) → nat_lt x.0 y.0 ≡ b → (x.0 == y.0) ≡ e → Rise (cond b (x ∷ y ∷ ys) (cond e (y ∷ ys) (y ∷ with_node x ys)))
    by true e f g = (ltb-true x.0 y.0 f, r)
    by false true f g = r
    by false false f g = above_with y.0 x ys (past x.0 y.0 f g) r

-- one that is down in a list above a is above a
down_above : (up : ℕ → Bool) (a : ℕ) (xs : List NodeId) (z : NodeId) → RiseAbove a xs → first_down up xs ≡ Some z → a < z.0
down_above up a [] z r e = absurd cc
down_above up a (x ∷ xs) z r e = by (up x.0) e (λ f. down_above up x.0 xs z r.1 f)
  where
    by : (b : Bool) → cond b (first_down up xs) (Some x) ≡ Some z → (first_down up xs ≡ Some z → x.0 < z.0) → a < z.0
    by true f h = (let l = h f in let k = r.0 in omega arith)
    by false f h = (let s : x ≡ z = cc in subst (λ (y : NodeId). a < y.0) s r.0)

-- a node that is below all that are down is the lesser
least_is : (x : NodeId) (o : Option NodeId) → ((z : NodeId) → o ≡ Some z → x.0 < z.0) → lesser x o ≡ x
least_is x None l = refl
least_is x (Some y) l = by (nat_lt y.0 x.0) refl
  where
    by : (b : Bool) → nat_lt y.0 x.0 ≡ b → cond b y x ≡ x
    by true e = absurd (let f = ltb-true y.0 x.0 e in let g = l y refl in omega arith)
    by false e = refl

-- of two that are one the lesser is either
lesser_same : (x : NodeId) → lesser x (Some x) ≡ x
lesser_same x = by (nat_lt x.0 x.0)
  where
    by : (b : Bool) → cond b x x ≡ x
    by true = refl
    by false = refl

above_rise : (a : ℕ) (xs : List NodeId) → RiseAbove a xs → Rise xs
above_rise a [] r = tt
above_rise a (x ∷ xs) r = r.1

-- with another node, the first node down is the lesser of that node, if it is down, and the first before
pub first_with : (up : ℕ → Bool) (x : NodeId) (xs : List NodeId) → Rise xs → first_down up (with_node x xs) ≡ with_down up (Some x) (first_down up xs)
first_with up x [] r = by (up x.0)
  where
    by : (b : Bool) → cond b None (Some x) ≡ cond b None (Some (lesser x None))
    by true = refl
    by false = refl
first_with up x (y ∷ ys) r = by (nat_lt x.0 y.0) (x.0 == y.0) refl refl (first_with up x ys (above_rise y.0 ys r))
  where
    front : nat_lt x.0 y.0 ≡ true → (b : Bool) → cond b (first_down up (y ∷ ys)) (Some x) ≡ cond b (first_down up (y ∷ ys)) (Some (lesser x (first_down up (y ∷ ys))))
    front f true = refl
    front f false = ap (λ (z : NodeId). Some z) (sym (least_is x (first_down up (y ∷ ys)) (λ z e. down_above up x.0 (y ∷ ys) z (ltb-true x.0 y.0 f, r) e)))

    one : (b : Bool) → cond b (first_down up ys) (Some y) ≡ cond b (cond b (first_down up ys) (Some y)) (Some (lesser y (cond b (first_down up ys) (Some y))))
    one true = refl
    one false = ap (λ (z : NodeId). Some z) (sym (lesser_same y))

    up_later : (y.0 < x.0) → (b : Bool) → Some y ≡ cond b (Some y) (Some (lesser x (Some y)))
    up_later l true = refl
    up_later l false = (let f = lt-ltb y.0 x.0 l in rw f refl)

    later : (y.0 < x.0) → first_down up (with_node x ys) ≡ with_down up (Some x) (first_down up ys) → (b : Bool)
        → cond b (first_down up (with_node x ys)) (Some y) ≡ with_down up (Some x) (cond b (first_down up ys) (Some y))
    later l e true = e
    later l e false = up_later l (up x.0)

    by : (b c : Bool) → nat_lt x.0 y.0 ≡ b → (x.0 == y.0) ≡ c → first_down up (with_node x ys) ≡ with_down up (Some x) (first_down up ys)
        → first_down up (cond b (x ∷ y ∷ ys) (cond c (y ∷ ys) (y ∷ with_node x ys))) ≡ with_down up (Some x) (first_down up (y ∷ ys))
    by true c f g e = front f (up x.0)
    by false true f g e =
        let s : y ≡ x = ap (λ (z : ℕ). let n : NodeId = record { 0 = z } in n) (sym (eqb-true x.0 y.0 g)) in
        subst (λ (z : NodeId). first_down up (y ∷ ys) ≡ with_down up (Some z) (first_down up (y ∷ ys))) s (one (up y.0))
    by false false f g e = later (past x.0 y.0 f g) e (up y.0)

-- with a mirror, if there is one
target_first : (up : ℕ → Bool) (o : Option NodeId) (xs : List NodeId) → Rise xs → with_down up o (first_down up xs) ≡ first_down up (with_target o xs)
target_first up None xs r = refl
target_first up (Some x) xs r = sym (first_with up x xs r)

-- ---- the owners of slots that are listed

-- with that of one slot more
pub owners_next : (up : ℕ → Bool) (rows : List (List SlotNow)) (p : ℕ) (from : List ℕ) (k : ℕ) (owner old new : Option NodeId) → 0 < k → k ≤ length from
    → owner ≡ owner_kept rows (slot_at p (get_or from (k - 1) 0)) → new ≡ with_down up owner old
    → old ≡ least_down up (map (owner_kept rows) (map (slot_at p) (drop k from))) → new ≡ least_down up (map (owner_kept rows) (map (slot_at p) (drop (k - 1) from)))
owners_next up rows p from k owner old new some le is next before =
    let plus : k - 1 + 1 ≡ k = omega arith in
    let l : k - 1 < length from = omega arith in
    let split : drop (k - 1) from ≡ get_or from (k - 1) 0 ∷ drop k from = drop_more from (k - 1) 0 l ∙ ap (λ (j : ℕ). get_or from (k - 1) 0 ∷ drop j from) plus in
    next ∙ ap (λ (o : Option NodeId). with_down up o old) is ∙ ap (with_down up (owner_kept rows (slot_at p (get_or from (k - 1) 0)))) before
    ∙ sym (ap (λ (l : List ℕ). least_down up (map (owner_kept rows) (map (slot_at p) l))) split)

-- ---- the owners of slots before a step

owners_rise : (ring : RingValue) (plan : List Planned) (n : ℕ) (ts : List Slot) → Rise (owners_before ring plan n ts)
owners_rise ring plan n [] = tt
owners_rise ring plan n (t ∷ ts) = rise_with (stage_before ring plan t n).owner (owners_before ring plan n ts) (owners_rise ring plan n ts)

-- the owners that are kept are those
abbrev pub AreOwners : RingValue → List Planned → List (List SlotNow) → ℕ → List Slot → Type 0
AreOwners ring plan rows n [] = Unit {0}
AreOwners ring plan rows n (t ∷ ts) = (owner_kept rows t ≡ Some (stage_before ring plan t n).owner) × AreOwners ring plan rows n ts

owners_first : (ring : RingValue) (plan : List Planned) (rows : List (List SlotNow)) (n : ℕ) (up : ℕ → Bool) (ts : List Slot) → AreOwners ring plan rows n ts
    → least_down up (map (owner_kept rows) ts) ≡ first_down up (owners_before ring plan n ts)
owners_first ring plan rows n up [] are = refl
owners_first ring plan rows n up (t ∷ ts) are =
    ap (λ (o : Option NodeId). with_down up o (least_down up (map (owner_kept rows) ts))) are.0
    ∙ ap (with_down up (Some (stage_before ring plan t n).owner)) (owners_first ring plan rows n up ts are.1)
    ∙ sym (first_with up (stage_before ring plan t n).owner (owners_before ring plan n ts) (owners_rise ring plan n ts))

listed_owners : (ring : RingValue) (plan : List Planned) (rows : List (List SlotNow)) (n : ℕ) (slot : Slot) (from : List ℕ) → ((j : ℕ) → has j from ≡ true → owner_kept rows (sibling slot j) ≡ Some (stage_before ring plan (sibling slot j) n).owner)
    → AreOwners ring plan rows n (map (λ i. record { partition = slot.partition; index = i }) from)
listed_owners ring plan rows n slot [] h = tt
listed_owners ring plan rows n slot (i ∷ from) h = (h i (rw (same i) refl), listed_owners ring plan rows n slot from (λ j e. h j (or_right (j == i) (has j from) e)))

-- ---- a copy that is ready and not finished

its_parties : (ring : RingValue) (plan : List Planned) (n : ℕ) (t : Step) (o : Option Planned) → (elim o as (λ _. Option Step) [ Some x ↦ Some x.step | None ↦ None ]) ≡ Some t
    → (elim o as (λ _. List NodeId) [ Some x ↦ with_target (target_of ring plan n x.step) (sources_of ring plan n x.step) | None ↦ [] ]) ≡ with_target (target_of ring plan n t) (sources_of ring plan n t)
its_parties ring plan n t None e = absurd cc
its_parties ring plan n t (Some x) e = (let f : x.step ≡ t = cc in ap (λ (z : Step). with_target (target_of ring plan n z) (sources_of ring plan n z)) f)

module _ (ring : RingValue) (plan : List Planned) (k : Kept) (w : World) (m : Tells ring plan k w) (n : ℕ) (slot : Slot) (source : Source) (at : step_at plan n ≡ Some (Copy slot source)) where
  is_known : Known ring plan
  is_known = known ring plan m.is_ring m.is_plan m.approved.sound

  -- the slot is of the ring, and so are those that the copy reads
  fits : (is_ring_slot ring slot ≡ true) × (source_suits ring source ≡ true)
  fits = and_parts (is_ring_slot ring slot) (source_suits ring source) (step_suiting ring plan (suits_of ring plan k w m) n (Copy slot source) at)

  own : Ready plan w.done n → w.done n ≡ false → stage_now ring plan w slot ≡ stage_before ring plan slot n
  own ready off =
      let z : 0 + n ≡ n = omega arith in
      let on : has n (steps_of plan slot) ≡ true = subst (λ (j : ℕ). has j (steps_of plan slot) ≡ true) z (has-from 0 n plan slot (Copy slot source) at (slot-same slot)) in
      ap (stage ring plan slot) (own_count ring plan is_known w.done n slot (reached_of ring plan k w m).closed ready off on)

  -- the owner that is kept of a slot of the ring is the one now
  owner_is : (t : Slot) → is_ring_slot ring t ≡ true → owner_kept k.rows t ≡ Some (stage_now ring plan w t).owner
  owner_is t h = (let x = m.slots.each t h in ap (option_map (λ (a : SlotNow). a.owner)) x.1 ∙ ap (λ (y : NodeId). Some y) x.2.owner)

  mirror_is : mirror_kept k.rows slot ≡ (stage_now ring plan w slot).mirror
  mirror_is = (let x = m.slots.each slot fits.0 in ap (option_and_then (λ (a : SlotNow). a.mirror)) x.1 ∙ x.2.mirror)

  owners_are : Ready plan w.done n → w.done n ≡ false → (from : Source) → step_at plan n ≡ Some (Copy slot from) → source_suits ring from ≡ true → AreOwners ring plan k.rows n (source_slots slot from)
  owners_are ready off Owner e suits = (owner_is slot fits.0 ∙ ap (λ (a : Stage). Some a.owner) (own ready off), tt)
  owners_are ready off (Slots from) e suits = listed_owners ring plan k.rows n slot from (λ j h.
      owner_is (sibling slot j) (and_from (nat_lt slot.partition ring.q) (nat_lt j ring.n) (and_parts (nat_lt slot.partition ring.q) (nat_lt slot.index ring.n) fits.0).0 (list_all-met (λ i. nat_lt i ring.n) from suits j h))
      ∙ ap (λ (y : NodeId). Some y) (owner_same ring plan is_known w.done n (sibling slot j) (reached_of ring plan k w m).closed ready off (λ i s. m.approved.sound.1.settled n i j slot from e h s)))

  -- the least of its nodes that is down is told by the slots that are kept
  pub party_tested : Ready plan w.done n → w.done n ≡ false → (o : Option Refusal) → o ≡ option_map (λ (x : NodeId). NodeDown x.0) (least_down (is_up_at k.nodes) (party_kept k.rows slot source))
      → o ≡ first_failing (parties_up ring plan w n)
  party_tested ready off o e =
      let up = is_up_at k.nodes in
      let ts = source_slots slot source in
      let mirror : mirror_kept k.rows slot ≡ (stage_before ring plan slot n).mirror = mirror_is ∙ ap (λ (a : Stage). a.mirror) (own ready off) in
      let owners : least_down up (map (owner_kept k.rows) ts) ≡ first_down up (owners_before ring plan n ts) = owners_first ring plan k.rows n up ts (owners_are ready off source at fits.1) in
      let all : least_down up (party_kept k.rows slot source) ≡ first_down up (parties ring plan n)
      = ap (λ (y : Option NodeId). with_down up y (least_down up (map (owner_kept k.rows) ts))) mirror
      ∙ ap (with_down up (stage_before ring plan slot n).mirror) owners
      ∙ target_first up (stage_before ring plan slot n).mirror (owners_before ring plan n ts) (owners_rise ring plan n ts)
      ∙ ap (first_down up) (sym (its_parties ring plan n (Copy slot source) (slice_get plan n) at)) in
      e ∙ ap (option_map (λ (x : NodeId). NodeDown x.0)) all ∙ sym (refused_by up (parties ring plan n)) ∙ ap first_failing (parties_kept ring plan k.nodes w n (nodes_meet ring plan k.nodes w m.nodes))
