-- The owner and the mirror of every stage are declared nodes.
use Rattle.std.proofs.Common.{◌≡◌, ◌∙◌, ℕ, zero, suc, ◌<◌, ◌≤◌, true, List, [], ◌∷◌, length, get_or, refl, sym, ap, subst, arith, add-one}
use Rattle.std.specs.Prelude.{Option, Some, None, slice_get, option_map, option_and_then, unwrap_or}
use Rattle.std.specs.List.{list_all, AllByRecursion}
use Rattle.std.proofs.lemmas.Bool.{and_parts}
use Rattle.ring_names.specs.declared.ids.NodeId.{NodeId}
use Rattle.ring_names.specs.declared.ids.Slot.{Slot}
use Rattle.ring_table.specs.declared.node.Node.{Node}
use Rattle.ring_table.specs.Value.{RingValue, is_member, owner_of}
use Rattle.ring_table.specs.Valid.{IsRing, IsRow}
use Rattle.plan_text.specs.declared.step.Step.{Step}
use Rattle.plan_text.specs.declared.step.Step.TheVariants.{Join, Mirror, Copy, Switch, Drop, Retire}
use Rattle.plan_text.specs.declared.step.Planned.{Planned}
use Rattle.plan_text.specs.Steps.{steps_of}
use Rattle.plan_text.specs.Valid.{Suits, is_ring_slot}
use Rattle.plan_stage.specs.declared.stage.Stage.{Stage}
use Rattle.plan_stage.specs.Stage.{opening, stage, next}
use Rattle.plan_stage.proofs.Places.{placed, step_at-is}
use Rattle.plan_stage.proofs.Stages.{stage-more, after-next}
use Rattle.store_parts.proofs.NodesRead.{read_within}
use Rattle.store_parts.proofs.StageSuits.{mirrors_within}
use Rattle.store_parts.proofs.SlotsNow.{first_owner}

-- ---- owners at the start

in_row : (nodes : List Node) (row : List NodeId) → list_all (is_member nodes) row ≡ true → (i : ℕ) (x : NodeId) → slice_get row i ≡ Some x → x.0 < length nodes
in_row nodes [] h i x at = absurd cc
in_row nodes (y ∷ row) h zero x at =
    let e : y ≡ x = cc in
    read_within (λ (node : Node). node.is_member) nodes x.0 (rw (← e) (and_parts (is_member nodes y) (list_all (is_member nodes) row) h).0)
in_row nodes (y ∷ row) h (suc i) x at = in_row nodes row (and_parts (is_member nodes y) (list_all (is_member nodes) row) h).1 i x at

in_rows : (n : ℕ) (nodes : List Node) (rows : List (List NodeId)) → AllByRecursion (IsRow n nodes) rows → (p i : ℕ) (x : NodeId) → option_and_then (λ (row : List NodeId). slice_get row i) (slice_get rows p) ≡ Some x → x.0 < length nodes
in_rows n nodes [] all p i x at = absurd cc
in_rows n nodes (row ∷ rows) all zero i x at = in_row nodes row all.0.members i x at
in_rows n nodes (row ∷ rows) all (suc p) i x at = in_rows n nodes rows all.1 p i x at

-- the owner of a slot at the start is declared
pub owner_declared : (ring : RingValue) → IsRing ring → (slot : Slot) (x : NodeId) → owner_of ring slot ≡ Some x → x.0 < length ring.nodes
owner_declared ring is slot x at = in_rows ring.n ring.nodes ring.owners is.rows slot.partition slot.index x at

-- ---- stages

-- the stage's owner is declared, and so is its mirror
pub record IsDeclared (ring : RingValue) (a : Stage) : Type 0 where
  pub owner : a.owner.0 < length ring.nodes
  pub mirror : (y : NodeId) → a.mirror ≡ Some y → y.0 < length ring.nodes

next_declared : (ring : RingValue) (a : Stage) (s : Step) → ((t : Slot) (y : NodeId) → s ≡ Mirror t y → y.0 < length ring.nodes) → IsDeclared ring a → IsDeclared ring (next a s)
next_declared ring a (Join x) h d = d
next_declared ring a (Mirror t x) h d = record { owner = d.owner; mirror = λ y e. (let f : x ≡ y = cc in h t y (ap (Mirror t) f)) }
next_declared ring a (Copy t from) h d = record { owner = d.owner; mirror = d.mirror }
next_declared ring a (Switch t) h d = record { owner = by a.mirror refl; mirror = λ y e. absurd cc }
  where
    by : (o : Option NodeId) → a.mirror ≡ o → (unwrap_or o a.owner).0 < length ring.nodes
    by None e = d.owner
    by (Some y) e = d.mirror y e
next_declared ring a (Drop t x) h d = record { owner = d.owner; mirror = d.mirror }
next_declared ring a (Retire x) h d = d

-- every stage of a slot of the ring is so
pub stage_declared : (ring : RingValue) (plan : List Planned) (slot : Slot) → IsRing ring → Suits ring plan → is_ring_slot ring slot ≡ true → (k : ℕ) → k ≤ length (steps_of plan slot) → IsDeclared ring (stage ring plan slot k)
stage_declared ring plan slot is suits h zero le = record { owner = owner_declared ring is slot (opening ring slot).owner (first_owner ring slot is h); mirror = λ y e. absurd cc }
stage_declared ring plan slot is suits h (suc k) le =
    let n = get_or (steps_of plan slot) k 0 in
    let within : k < length (steps_of plan slot) = omega arith in
    let on = placed plan slot k within in
    let at : option_map (λ (z : Planned). z.step) (slice_get plan n) ≡ Some on.0.step = ap (λ (o : Option Planned). option_map (λ (z : Planned). z.step) o) on.1 in
    let more : stage ring plan slot (suc k) ≡ next (stage ring plan slot k) on.0.step
    = ap (stage ring plan slot) (sym (add-one k)) ∙ stage-more ring plan slot k within ∙ after-next plan (stage ring plan slot k) n on.0.step at in
    let mirrored = λ (t : Slot) (y : NodeId) (e : on.0.step ≡ Mirror t y). mirrors_within ring plan suits n t y (step_at-is plan n on.0.step at ∙ ap (λ (s : Step). Some s) e) in
    subst (IsDeclared ring) (sym more) (next_declared ring (stage ring plan slot k) on.0.step mirrored (stage_declared ring plan slot is suits h k (omega arith)))
