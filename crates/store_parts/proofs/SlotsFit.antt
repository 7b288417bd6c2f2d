-- The owners and mirrors of slots that are kept are declared nodes, and their generations are small.
use Rattle.std.proofs.Common.{◌≡◌, ◌∙◌, ℕ, ◌+◌, ◌<◌, ◌≤◌, Bool, true, false, cond, List, length, refl, sym, ap, subst, arith}
use Rattle.std.specs.Prelude.{◌&&◌, Option, Some, None, option_map, is_some, IfSome}
use Rattle.ring_names.specs.declared.ids.NodeId.{NodeId}
use Rattle.ring_names.specs.declared.ids.Slot.{Slot}
use Rattle.ring_table.specs.Value.{RingValue}
use Rattle.ring_table.specs.Valid.{IsRing}
use Rattle.plan_text.specs.declared.step.Planned.{Planned}
use Rattle.plan_text.specs.Steps.{steps_of}
use Rattle.plan_text.specs.Valid.{IsPlan, Suits, is_ring_slot}
use Rattle.plan_stage.proofs.Truth.{slot-same}
use Rattle.plan_runs.specs.declared.event.Event.{Event}
use Rattle.plan_runs.specs.declared.event.Event.TheVariants.{Lose}
use Rattle.plan_runs.specs.World.{World, opening_world, count, mirror_at, is_in_group}
use Rattle.plan_runs.specs.Effects.{effect}
use Rattle.plan_runs.specs.Reached.{Reached}
use Rattle.plan_runs.proofs.Frames.{same_losses}
use Rattle.store_parts.specs.declared.slots.SlotNow.{SlotNow}
use Rattle.store_parts.specs.Slots.{slot_now, ChangesSlot}
use Rattle.store_parts.specs.SlotsMeet.{IsNow, SlotsMeet}
use Rattle.store_parts.specs.SlotsLost.{LossesFit}
use Rattle.store_parts.proofs.StageCounts.{count_within}
use Rattle.store_parts.proofs.StageNodes.{stage_declared}
use Rattle.ring_table.proofs.LineLaws.{loss-le}
use Rattle.plan_stage.proofs.Copies.{steps_from-few}

-- ---- losses

-- at the start there are none
pub losses_start : (ring : RingValue) → LossesFit (opening_world ring)
losses_start ring slot = omega arith

-- every event keeps it so that no slot has had more losses than there were
pub losses_stay : (ring : RingValue) (plan : List Planned) (w : World) (e : Event) → LossesFit w → LossesFit (effect ring plan w e)
unfolding effect
losses_stay ring plan w (Lose x) f = λ slot. by (is_in_group ring plan w slot x.0) (w.lost slot) (f slot)
  where
    by : (b : Bool) (l : ℕ) → l ≤ w.losses → cond b (l + 1) l ≤ w.losses + 1
    by true l h = omega arith
    by false l h = omega arith
losses_stay ring plan w e f = λ slot. (
    let k = same_losses ring plan w e refl in
    let l = ap (λ (lost : Slot → ℕ). lost slot) k.1 in
    let m = k.0 in
    let n = f slot in
    omega arith)

-- ---- generations

-- a slot that is kept is one of the ring
pub kept_within : (ring : RingValue) (plan : List Planned) (rows : List (List SlotNow)) (w : World) (slot : Slot) (x : SlotNow) → SlotsMeet ring plan rows w → slot_now rows slot ≡ Some x → is_ring_slot ring slot ≡ true
kept_within ring plan rows w slot x t at = by (is_ring_slot ring slot) refl
  where
    by : (b : Bool) → is_ring_slot ring slot ≡ b → b ≡ true
    by true e = refl
    by false e = absurd (let f = t.others slot e in cc)

-- and it is that slot now
pub kept_is : (ring : RingValue) (plan : List Planned) (rows : List (List SlotNow)) (w : World) (slot : Slot) (x : SlotNow) → SlotsMeet ring plan rows w → slot_now rows slot ≡ Some x → IsNow ring plan w slot x
kept_is ring plan rows w slot x t at =
    let e = t.each slot (kept_within ring plan rows w slot x t at) in
    let f : e.0 ≡ x = (let g = e.1 in cc) in
    subst (λ (z : SlotNow). IsNow ring plan w slot z) f e.2

-- no generation is above the steps of a plan and the losses of a ring
pub generation_most : (ring : RingValue) (plan : List Planned) (rows : List (List SlotNow)) (w : World) (slot : Slot) (x : SlotNow) → IsRing ring → IsPlan plan → Reached ring plan w → LossesFit w → SlotsMeet ring plan rows w
    → slot_now rows slot ≡ Some x → x.generation ≤ 131078
generation_most ring plan rows w slot x is_ring is_plan r fit t at =
    let g = (kept_is ring plan rows w slot x t at).generation in
    let a = count_within (λ s. w.done s && is_some (mirror_at plan s)) (steps_of plan slot) in
    let b = steps_from-few 0 plan slot in
    let c = is_plan.steps in
    let d = fit slot in
    let e = r.spent in
    let f = loss-le ring.format ring.loss is_ring.loss in
    omega arith

-- so each may be one more
pub may_raise : (ring : RingValue) (plan : List Planned) (rows : List (List SlotNow)) (w : World) (slot : Slot) → IsRing ring → IsPlan plan → Reached ring plan w → LossesFit w → SlotsMeet ring plan rows w
    → IfSome (slot_now rows slot) (λ x. x.generation < 4294967295)
may_raise ring plan rows w slot is_ring is_plan r fit t = by (slot_now rows slot) refl
  where
    by : (o : Option SlotNow) → slot_now rows slot ≡ o → IfSome o (λ x. x.generation < 4294967295)
    by None e = tt
    by (Some x) e = (let m = generation_most ring plan rows w slot x is_ring is_plan r fit t e in omega arith)

-- that of a slot whose mirror was just set too
pub may_raise_mirrored : (ring : RingValue) (plan : List Planned) (old mid : List (List SlotNow)) (w : World) (slot : Slot) (y : NodeId) → IsRing ring → IsPlan plan → Reached ring plan w → LossesFit w → SlotsMeet ring plan old w
    → ChangesSlot old mid slot (λ a. record a { mirror = Some y }) → IfSome (slot_now mid slot) (λ x. x.generation < 4294967295)
may_raise_mirrored ring plan old mid w slot y is_ring is_plan r fit t change =
    subst (λ (o : Option SlotNow). IfSome o (λ x. x.generation < 4294967295))
    (sym (change slot ∙ ap (λ (b : Bool). cond b (option_map (λ (a : SlotNow). record a { mirror = Some y }) (slot_now old slot)) (slot_now old slot)) (slot-same slot)))
    (by (slot_now old slot) (may_raise ring plan old w slot is_ring is_plan r fit t))
  where
    by : (o : Option SlotNow) → IfSome o (λ x. x.generation < 4294967295) → IfSome (option_map (λ (a : SlotNow). record a { mirror = Some y }) o) (λ x. x.generation < 4294967295)
    by None h = tt
    by (Some x) h = h

-- ---- nodes

-- the owner of a slot that is kept is declared
pub owner_kept : (ring : RingValue) (plan : List Planned) (rows : List (List SlotNow)) (w : World) (slot : Slot) (x : SlotNow) → IsRing ring → Suits ring plan → SlotsMeet ring plan rows w → slot_now rows slot ≡ Some x
    → x.owner.0 < length ring.nodes
owner_kept ring plan rows w slot x is_ring suits t at =
    let d = stage_declared ring plan slot is_ring suits (kept_within ring plan rows w slot x t at) (count w.done (steps_of plan slot)) (count_within w.done (steps_of plan slot)) in
    let o = ap (λ (y : NodeId). y.0) (kept_is ring plan rows w slot x t at).owner in
    let l = d.owner in
    omega arith

-- and its mirror, if there is one
pub mirror_kept : (ring : RingValue) (plan : List Planned) (rows : List (List SlotNow)) (w : World) (slot : Slot) (x : SlotNow) (y : NodeId) → IsRing ring → Suits ring plan → SlotsMeet ring plan rows w → slot_now rows slot ≡ Some x
    → x.mirror ≡ Some y → y.0 < length ring.nodes
mirror_kept ring plan rows w slot x y is_ring suits t at is =
    let d = stage_declared ring plan slot is_ring suits (kept_within ring plan rows w slot x t at) (count w.done (steps_of plan slot)) (count_within w.done (steps_of plan slot)) in
    d.mirror y (sym (kept_is ring plan rows w slot x t at).mirror ∙ is)
