-- What calls need of a store that is sound, and of an event that passes its tests.
use Rattle.std.proofs.Common.{◌≡◌, ◌∙◌, ℕ, ◌<◌, ◌≤◌, Bool, true, false, cond, List, length, refl, sym, ap, subst, arith, eqb-true, ltb-true, leb-true}
use Rattle.std.specs.Prelude.{◌≢◌, ◌==◌, nat_lt, nat_le, Option, Some, None, is_some, option_map, option_and_then, IfSome}
use Rattle.std.proofs.Props.{props}
use Rattle.ring_names.specs.declared.ids.NodeId.{NodeId}
use Rattle.ring_names.specs.declared.ids.Slot.{Slot}
use Rattle.ring_table.specs.Valid.{is_loss}
use Rattle.plan_text.specs.declared.step.Source.{Source}
use Rattle.plan_text.specs.declared.step.Step.{Step}
use Rattle.plan_text.specs.declared.step.Step.TheVariants as step
use Rattle.plan_text.specs.declared.step.Planned.{Planned}
use Rattle.plan_text.specs.Steps.{copy_of}
use Rattle.plan_stage.specs.Each.{step_at}
use Rattle.plan_stage.specs.Clauses.{first_failing}
use Rattle.plan_runs.specs.declared.event.Event.TheVariants.{Do, Lose}
use Rattle.plan_runs.specs.World.{World}
use Rattle.plan_runs.specs.Guards.{has_copy, has_other, guards}
use Rattle.plan_runs.proofs.Passed.{all_met}
use Rattle.ring_store.specs.Stores.{shared_space}
use Rattle.store_parts.specs.declared.slots.SlotNow.{SlotNow}
use Rattle.store_parts.specs.Slots.{slot_now, ChangesSlot}
use Rattle.plan_runs.proofs.Suited.{within as within_ring}
use Rattle.store_parts.proofs.SlotsFit.{kept_within, may_raise, may_raise_mirrored}
use Rattle.store_parts.proofs.StepsNow.{step_within, other_within, copy_within}
use Rattle.store_parts.specs.declared.parts.Parts.{Parts}
use Rattle.store_parts.specs.Parts.{Meets, IsSound, Passes, ring_of, plan_of, kept_of}
use Rattle.store_parts.proofs.StoreInWorld.{holds, reached_of}
use Rattle.store_events.specs.Parties.{mirror_kept}
use Rattle.store_events.proofs.StepsOn.{no_copy, is_other}
use Rattle.store_events.proofs.PutAndSlot.{mirror_prop, mirror_fits}

-- there is only one way in which a number of what is there is less
less_prop : (o : Option SlotNow) → IsProp (IfSome o (λ x. x.generation < 4294967295))
less_prop (Some x) = hlevel props
less_prop None = hlevel props

-- ---- steps

-- a step that is done is one of the plan
pub other_there : (plan : List Planned) (n : ℕ) → has_other plan n ≡ true → n < length plan
other_there plan n h = (let s = other_within plan n h in step_within plan n s.0 s.1)

pub copy_there : (plan : List Planned) (n : ℕ) → has_copy plan n ≡ true → n < length plan
copy_there plan n h = (let s = copy_within plan n h in step_within plan n s.0 s.1)

-- a step that is a copy is one
pub is_no_other : (plan : List Planned) (n : ℕ) (t : Step) → has_copy plan n ≡ true → step_at plan n ≡ Some t → ((s : Slot) (from : Source) → t ≡ step.Copy s from → ⊥) → ⊥
is_no_other plan n t h at never = by t (sym (ap (λ (o : Option Step). is_some (option_and_then copy_of o)) at) ∙ h) never
  where
    by : (u : Step) → is_some (copy_of u) ≡ true → ((s : Slot) (from : Source) → u ≡ step.Copy s from → ⊥) → ⊥
    by (step.Join x) e f = absurd cc
    by (step.Mirror s x) e f = absurd cc
    by (step.Copy s from) e f = f s from refl
    by (step.Switch s) e f = absurd cc
    by (step.Drop s x) e f = absurd cc
    by (step.Retire x) e f = absurd cc

module _ (a : Parts) (s : IsSound a) where
  -- if a copy is known in each world that the store may be in, it is one of the plan
  pub known_copy : (n : ℕ) → ((w : World) → Meets a w → has_copy (plan_of a) n ≡ true) → has_copy (plan_of a) n ≡ true
  known_copy n f = holds a s (hlevel props) f

  pub done_there : (n : ℕ) → Passes a (Do n) → n < length (plan_of a)
  done_there n p = holds a s (hlevel props) (λ w m. other_there (plan_of a) n (no_copy (ring_of a) (plan_of a) w n (sym (p w m))))

  pub done_other : (n : ℕ) (t : Step) → Passes a (Do n) → step_at (plan_of a) n ≡ Some t → is_some (copy_of t) ≡ false
  done_other n t p at = holds a s (hlevel props) (λ w m. is_other (plan_of a) n t (no_copy (ring_of a) (plan_of a) w n (sym (p w m))) at)

  -- ---- slots

  -- each slot may be of a next generation
  pub may_be_raised : (t : Slot) → IfSome (slot_now a.slots t) (λ x. x.generation < 4294967295)
  may_be_raised t = holds a s (less_prop (slot_now a.slots t)) (λ w m. may_raise (ring_of a) (plan_of a) a.slots w t m.is_ring m.is_plan (reached_of (ring_of a) (plan_of a) (kept_of a) w m) m.lost m.slots)

  -- so may one whose mirror was just set
  pub may_be_mirrored : (mid : List (List SlotNow)) (t : Slot) (y : NodeId) → ChangesSlot a.slots mid t (λ x. record x { mirror = Some y }) → IfSome (slot_now mid t) (λ x. x.generation < 4294967295)
  may_be_mirrored mid t y change = holds a s (less_prop (slot_now mid t))
      (λ w m. may_raise_mirrored (ring_of a) (plan_of a) a.slots mid w t y m.is_ring m.is_plan (reached_of (ring_of a) (plan_of a) (kept_of a) w m) m.lost m.slots change)

  -- a slot that is kept is one of those that are stored
  pub slot_ready : (t : Slot) (x : SlotNow) → Some x ≡ slot_now a.slots t → t.partition < shared_space a.stores
  slot_ready t x at = holds a s (hlevel props) (λ w m. subst (λ (q : ℕ). t.partition < q) (sym s.sized.space) (within_ring (ring_of a) t (kept_within (ring_of a) (plan_of a) a.slots w t x m.slots (sym at))).0)

  -- its mirror is another node than its owner
  pub mirror_ready : (t : Slot) (x : SlotNow) → Some x ≡ slot_now a.slots t → IfSome x.mirror (λ y. y.0 ≢ x.owner.0)
  mirror_ready t x at = holds a s (mirror_prop x.mirror x.owner.0) (λ w m. mirror_fits (ring_of a) (plan_of a) (kept_of a) w m t x (sym at))

  -- a slot with a mirror is stored, and its owner is another node
  pub mirror_stands : (t : Slot) (y : NodeId) → mirror_kept a.slots t ≡ Some y → (t.partition < shared_space a.stores) × ((owner : NodeId) → Some owner ≡ option_map (λ x. x.owner) (slot_now a.slots t) → y.0 ≢ owner.0)
  mirror_stands t y = by (slot_now a.slots t) refl
    where
      by : (o : Option SlotNow) → slot_now a.slots t ≡ o → option_and_then (λ x. x.mirror) o ≡ Some y → (t.partition < shared_space a.stores) × ((owner : NodeId) → Some owner ≡ option_map (λ x. x.owner) o → y.0 ≢ owner.0)
      by None at e = absurd cc
      by (Some x) at e =
          let apart : y.0 ≢ x.owner.0 = subst (λ (o : Option NodeId). IfSome o (λ z. z.0 ≢ x.owner.0)) e (mirror_ready t x (sym at)) in
          (slot_ready t x (sym at), λ owner is. subst (λ (z : NodeId). y.0 ≢ z.0) (let same : x.owner ≡ owner = cc in same) apart)

  -- ---- losses

  few_losses : (format loss : ℕ) → is_loss format loss ≡ true → loss ≤ 6
  few_losses format loss e = by (nat_lt format 3) e
    where
      by : (b : Bool) → cond b (loss == 0) (nat_le loss 6) ≡ true → loss ≤ 6
      by true f = (let z = eqb-true loss 0 f in omega arith)
      by false f = leb-true loss 6 f

  lost : (w : World) (x : NodeId) → Meets a w → first_failing (guards (ring_of a) (plan_of a) w (Lose x)) ≡ None → a.losses < 6
  unfolding guards
  lost w x m passes =
      let g = all_met (guards (ring_of a) (plan_of a) w (Lose x)) passes in
      let l = ltb-true w.losses (ring_of a).loss g.1.0 in
      let most = few_losses (ring_of a).format (ring_of a).loss m.is_ring.loss in
      let same = m.losses in
      omega arith

  -- one loss more is still counted
  pub few_lost : (x : NodeId) → Passes a (Lose x) → a.losses < 6
  few_lost x p = holds a s (hlevel props) (λ w m. lost w x m (sym (p w m)))
