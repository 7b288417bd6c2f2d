-- In every run of a plan whose nodes serve as members, each slot's owner and mirror are members.
use Rattle.std.proofs.Common.{◌≡◌, inl, inr, ◌∙◌, ℕ, zero, suc, ◌<◌, ◌≤◌, Bool, true, false, not, cond, List, [], ◌∷◌, ◌++◌, length, get_or, take, drop, Option, Some, None, refl, sym, ap, subst, arith, eq-eqb, take-take}
use Rattle.std.specs.Prelude.{◌&&◌, ◌||◌, ◌==◌, slice_get, option_and_then, unwrap_or}
use Rattle.std.specs.List.{list_all, AllByRecursion}
use Rattle.std.proofs.lemmas.Bool.{and_parts, and_from, cases_lt, or_left, or_right}
use Rattle.ring_names.specs.Lists.{has}
use Rattle.ring_names.specs.declared.ids.NodeId.{NodeId}
use Rattle.ring_names.specs.declared.ids.Slot.{Slot}
use Rattle.ring_table.specs.declared.node.Node.{Node}
use Rattle.ring_table.specs.Value.{RingValue, is_member}
use Rattle.ring_table.specs.Valid.{IsRow}
use Rattle.plan_text.specs.declared.step.Step.{Step}
use Rattle.plan_text.specs.declared.step.Step.TheVariants.{Join, Mirror, Copy, Switch, Drop, Retire}
use Rattle.plan_text.specs.declared.step.Planned.{Planned}
use Rattle.plan_text.specs.Steps.{steps_of, is_slot, is_join_of, is_retire_of}
use Rattle.plan_order.specs.Before.{Before}
use Rattle.plan_stage.specs.Stage.{stage, opening, is_among}
use Rattle.plan_stage.specs.declared.stage.Stage.{Stage}
use Rattle.plan_stage.specs.Occupancy.{is_node, leaving, is_drop_of, dropping, mirror_drop}
use Rattle.plan_stage.specs.Each.{some_step, step_at, place_in}
use Rattle.plan_stage.proofs.Stages.{fits_at-fits}
use Rattle.plan_stage.proofs.Truth.{node-is, same, slot-is, some-met, some-all}
use Rattle.plan_runs.specs.World.{World, count, stage_now, slot_at}
use Rattle.plan_runs.specs.Reached.{Closed, Reached}
use Rattle.plan_runs.specs.Runs.{Always}
use Rattle.plan_runs.proofs.Groups.{served_by}
use Rattle.plan_runs.proofs.Prefix.{found_later, prefix, place}
use Rattle.plan_runs.proofs.Reached.{reached}
use Rattle.plan_check.specs.Occupies.{FromStart, FromMirror, Serves, IsGoodMirror}
use Rattle.plan_check.specs.Safe.{ServersAreMembers}
use Rattle.plan_check.specs.Sound.{EndsBefore, ServeAsMembers}
use Rattle.plan_check.proofs.Firsts.{retire-is}
use Rattle.plan_check.proofs.Good.{good-stages}
use Rattle.plan_check.proofs.Mirrored.{Known, before_done, down, ends, rises}
use Rattle.plan_check.proofs.Occupied.{cut, occupied}
use Rattle.plan_check.proofs.Serving.{leaving_parts, serving}
use Rattle.plan_check.proofs.Staging.{mapped}

-- ---- owners at the start

in_row : (nodes : List Node) (row : List NodeId) (i : ℕ) (x : NodeId) → list_all (is_member nodes) row ≡ true → slice_get row i ≡ Some x → is_member nodes x ≡ true
in_row nodes [] i x all h = absurd cc
in_row nodes (y ∷ ys) zero x all h =
    let e : y ≡ x = cc in
    subst (λ (z : NodeId). is_member nodes z ≡ true) e (and_parts (is_member nodes y) (list_all (is_member nodes) ys) all).0
in_row nodes (y ∷ ys) (suc i) x all h = in_row nodes ys i x (and_parts (is_member nodes y) (list_all (is_member nodes) ys) all).1 h

owner_member : (n : ℕ) (nodes : List Node) (rows : List (List NodeId)) → AllByRecursion (IsRow n nodes) rows → (p i : ℕ) (x : NodeId)
    → option_and_then (λ (row : List NodeId). slice_get row i) (slice_get rows p) ≡ Some x → is_member nodes x ≡ true
owner_member n nodes [] all p i x h = absurd cc
owner_member n nodes (row ∷ rows) all zero i x h = in_row nodes row i x all.0.members h
owner_member n nodes (row ∷ rows) all (suc p) i x h = owner_member n nodes rows all.1 p i x h

-- ---- drops

drop_is : (x : NodeId) (slot : Slot) (t : Step) → is_drop_of x slot t ≡ true → t ≡ Drop slot x
drop_is x slot (Join y) h = absurd cc
drop_is x slot (Mirror s y) h = absurd cc
drop_is x slot (Copy s from) h = absurd cc
drop_is x slot (Switch s) h = absurd cc
drop_is x slot (Drop s y) h =
    let b = and_parts (is_slot slot s) (is_node x y) h in
    rw (slot-is slot s b.0, node-is x y b.1) refl
drop_is x slot (Retire y) h = absurd cc

-- what ends a holding is a drop among the steps
dropping_is : (plan : List Planned) (x : NodeId) (slot : Slot) (ss : List ℕ) (e : ℕ) → dropping plan x slot ss ≡ Some e
    → (has e ss ≡ true) × (step_at plan e ≡ Some (Drop slot x))
dropping_is plan x slot [] e h = absurd cc
dropping_is plan x slot (s ∷ ss) e h = by (slice_get plan s) refl h (λ g. (let r = dropping_is plan x slot ss e g in (or_right (e == s) (has e ss) r.0, r.1)))
  where
    Is : Type 0
    Is = (has e (s ∷ ss) ≡ true) × (step_at plan e ≡ Some (Drop slot x))

    here : (p : Planned) (b : Bool) → slice_get plan s ≡ Some p → is_drop_of x slot p.step ≡ b → cond b (Some s) (dropping plan x slot ss) ≡ Some e
        → (dropping plan x slot ss ≡ Some e → Is) → Is
    here p false at d g later = later g
    here p true at d g later =
        let is : s ≡ e = cc in
        let step : step_at plan s ≡ Some p.step = ap (λ (o : Option Planned). elim o as (λ _. Option Step) [ Some z ↦ Some z.step | None ↦ None ]) at in (
          or_left (e == s) (has e ss) (eq-eqb e s (sym is)),
          ap (step_at plan) (sym is) ∙ step ∙ ap (λ (t : Step). Some t) (drop_is x slot p.step d),
        )

    by : (o : Option Planned) → slice_get plan s ≡ o
        → (elim o [ Some step ↦ cond (is_drop_of x slot step.step) (Some s) (dropping plan x slot ss) | None ↦ dropping plan x slot ss ]) ≡ Some e
        → (dropping plan x slot ss ≡ Some e → Is) → Is
    by None at g later = later g
    by (Some p) at g later = here p (is_drop_of x slot p.step) at refl g later

-- ---- who serves a slot has not dropped it since

-- who has not left in k steps has not left in fewer
leaving_front : (plan : List Planned) (x : NodeId) (a : Stage) (n i k : ℕ) (ss : List ℕ) → n ≤ i → i ≤ k → leaving plan x a (drop n (take k ss)) ≡ None
    → leaving plan x a (drop n (take i ss)) ≡ None
leaving_front plan x a n i k ss l m none =
    let split : drop n (take i ss) ++ drop i (take k ss) ≡ drop n (take k ss) =
    ap (λ (ts : List ℕ). drop n ts ++ drop i (take k ss)) (sym (take-take i k ss m)) ∙ cut n i (take k ss) l in
    (leaving_parts plan x a (drop n (take i ss)) (drop i (take k ss)) (ap (leaving plan x a) split ∙ none)).0

-- a plan whose slots act in order, and steps that are done with all that they wait for
module _ (ring : RingValue) (plan : List Planned) (k : Known ring plan) (D : ℕ → Bool) (c : Closed plan D) (slot : Slot) (x : NodeId)
    (p : slot.partition < ring.q) (q : slot.index < ring.n) where
  abbrev ss : List ℕ
  ss = steps_of plan slot

  abbrev now : ℕ
  now = count D ss

  -- a node that serves the slot in a stage has no drop there
  no_drop : (i : ℕ) → i < length ss → Serves ring plan slot x i → step_at plan (get_or ss i 0) ≡ Some (Drop slot x) → ⊥
  no_drop i l serves at =
      let a = stage ring plan slot i in
      let good = good-stages ring plan slot (λ s f g. k.in_turn.staged s) p q i (omega arith) in
      let fit : is_among x a.leftovers ≡ true = sym (fits_at-fits plan a (get_or ss i 0) (Drop slot x) (mapped (slice_get plan (get_or ss i 0)) (Drop slot x) at)) ∙ k.in_turn.staged slot i l in
      elim serves [
        | inl owner ↦ (let f : is_among x a.leftovers ≡ false = subst (λ (z : NodeId). is_among z a.leftovers ≡ false) (sym owner) good.0 in cc)
        | inr mirror ↦ (let f = (subst (λ (o : Option NodeId). IsGoodMirror a o) mirror good.1).1 in cc)
      ]

  -- so where it serves from stage n on, no such drop is done
  not_dropped : (n e : ℕ) → ((i : ℕ) → n ≤ i → i ≤ now → Serves ring plan slot x i) → dropping plan x slot (drop n ss) ≡ Some e → D e ≡ true → ⊥
  not_dropped n e serves is done =
      let d = dropping_is plan x slot (drop n ss) e is in
      let f = found_later e n ss d.0 in
      let first = prefix D ss (down ring plan k D c slot) in
      elim (cases_lt f.0 now) [
        | inl l ↦ no_drop f.0 f.2 (serves f.0 f.1 (omega arith)) (ap (step_at plan) f.3 ∙ d.1)
        | inr l ↦ (let off = first.above f.0 l f.2 in let on : D (get_or ss f.0 0) ≡ true = ap D f.3 ∙ done in cc)
      ]

  -- the step that ends a holding is done where what waits for it is
  ended : (o : Option ℕ) (t : ℕ) → EndsBefore (Before plan) o t → D t ≡ true → (e : ℕ) × (o ≡ Some e) × (D e ≡ true)
  ended o t h done = (let e = ends plan o t h in (e.0, e.1, before_done plan D e.0 t c e.2 done))

  within : now ≤ length ss
  within = (prefix D ss (down ring plan k D c slot)).within

  stays_first : FromStart ring plan slot x now → (i : ℕ) → 0 ≤ i → i ≤ now → Serves ring plan slot x i
  stays_first f i l m =
      let w = within in
      serving ring plan slot x i (λ s g h. k.in_turn.staged s) p q (omega arith) (inl (f.0, leaving_front plan x (opening ring slot) 0 i now ss l m f.1))

  stays_later : (b : ℕ) → FromMirror ring plan slot x now b → (i : ℕ) → suc b ≤ i → i ≤ now → Serves ring plan slot x i
  stays_later b f i l m =
      let w = within in
      serving ring plan slot x i (λ s g h. k.in_turn.staged s) p q (omega arith)
      (inr (b, (omega arith, f.1, leaving_front plan x (stage ring plan slot (suc b)) (suc b) i now ss l m f.2)))

  -- no retirement of it is done
  not_retired : ServeAsMembers ring plan (Before plan) → Serves ring plan slot x now → (t : ℕ) → step_at plan t ≡ Some (Retire x) → D t ≡ true → ⊥
  not_retired m serves t at done = elim (occupied ring plan slot x now k.is_ring p q within serves) [
    | inl f ↦ (
        let e = ended _ t (m.dropped_first t slot x at f.0) done in
        let owner : (opening ring slot).owner ≡ x = ap (λ (o : Option NodeId). unwrap_or o (record { 0 = 0 })) f.0 in
        not_dropped 0 e.0 (stays_first f) (ap (λ (z : NodeId). dropping plan z slot ss) (sym owner) ∙ e.1) e.2)
    | inr f ↦ (
        let first = prefix D ss (down ring plan k D c slot) in
        let l : f.0 < now = f.1.0 in
        let w = within in
        let there : place_in plan slot (get_or ss f.0 0) ≡ f.0 = place ss f.0 (rises ring plan k slot) (omega arith) in
        let e = ended _ t (m.dropped_later t (get_or ss f.0 0) slot x at f.1.1) done in
        not_dropped (suc f.0) e.0 (stays_later f.0 f.1) (ap (λ (j : ℕ). mirror_drop plan slot j x) (sym there) ∙ e.1) e.2)
  ]

  -- it is `in` at the start, or its join is done
  has_joined : ServeAsMembers ring plan (Before plan) → Serves ring plan slot x now
      → (is_member ring.nodes x || some_step (λ n s. D n && is_join_of x.0 s) 0 plan) ≡ true
  has_joined m serves = by (is_member ring.nodes x) refl
    where
      by : (b : Bool) → is_member ring.nodes x ≡ b → (b || some_step (λ n s. D n && is_join_of x.0 s) 0 plan) ≡ true
      by true e = refl
      by false e = elim (occupied ring plan slot x now k.is_ring p q within serves) [
        | inl f ↦ absurd (let g = owner_member ring.n ring.nodes ring.owners k.is_ring.rows slot.partition slot.index x f.0 in cc)
        | inr f ↦ (
            let first = prefix D ss (down ring plan k D c slot) in
            let j = m.joined (get_or ss f.0 0) slot x f.1.1 e in
            let done : D j.0 ≡ true = before_done plan D j.0 (get_or ss f.0 0) c j.2 (first.below f.0 f.1.0) in
            some-all (λ n s. D n && is_join_of x.0 s) plan j.0 (Join x) j.1 (and_from (D j.0) (is_join_of x.0 (Join x)) done (same x.0)))
      ]

-- ---- the law

-- in a world that is reached, wherever the run began
pub servers_are_members : (ring : RingValue) (plan : List Planned) → Known ring plan → ServeAsMembers ring plan (Before plan) → (w : World) → Reached ring plan w
    → ServersAreMembers ring plan w
servers_are_members ring plan k m w r p i x l j served = and_from (is_member ring.nodes node || some_step (λ n s. w.done n && is_join_of x s) 0 plan)
    (not (some_step retired 0 plan)) (has_joined ring plan k w.done r.closed slot node l j m serves) (by (some_step retired 0 plan) refl)
  where
    slot : Slot
    slot = slot_at p i

    node : NodeId
    node = record { 0 = x }

    retired : ℕ → Step → Bool
    retired n s = w.done n && is_retire_of x s

    serves : Serves ring plan slot node (count w.done (steps_of plan slot))
    serves = elim (served_by (stage_now ring plan w slot) x served) [
      | inl e ↦ inl (ap (λ (z : ℕ). record { 0 = z }) e)
      | inr e ↦ inr e
    ]

    by : (b : Bool) → some_step retired 0 plan ≡ b → not b ≡ true
    by false e = refl
    by true e = absurd (
        let t = some-met retired plan e in
        let b = and_parts (w.done t.0) (is_retire_of x t.1) t.3 in
        not_retired ring plan k w.done r.closed slot node l j m serves t.0 (t.2 ∙ ap (λ (s : Step). Some s) (retire-is node t.1 b.1)) b.0)

pub members_always : (ring : RingValue) (plan : List Planned) → Known ring plan → ServeAsMembers ring plan (Before plan) → Always ring plan (ServersAreMembers ring plan)
members_always ring plan k m run w is = servers_are_members ring plan k m w (reached ring plan run w is)
