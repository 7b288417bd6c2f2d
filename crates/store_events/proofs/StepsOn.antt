-- A step is done, and what a store keeps tells of the next world.
use Rattle.std.proofs.Common.{◌≡◌, ◌∙◌, ℕ, Bool, true, false, not, List, refl, sym, ap, subst}
use Rattle.std.specs.Prelude.{◌<◌, ◌==◌, ◌&&◌, length, Option, Some, None, slice_get, option_map, is_some}
use Rattle.std.proofs.lemmas.Bool.{not-true}
use Rattle.ring_names.specs.declared.ids.NodeId.{NodeId}
use Rattle.ring_names.specs.declared.ids.Slot.{Slot}
use Rattle.ring_table.specs.Value.{RingValue}
use Rattle.ring_versions.specs.declared.version.Version.{Version}
use Rattle.plan_text.specs.declared.step.Step.{Step}
use Rattle.plan_text.specs.declared.step.Step.TheVariants as step
use Rattle.plan_text.specs.declared.step.Planned.{Planned}
use Rattle.plan_text.specs.Steps.{is_slot, copy_of}
use Rattle.plan_stage.specs.Each.{step_at}
use Rattle.plan_stage.specs.Clauses.{first_failing}
use Rattle.plan_runs.specs.declared.event.Event.TheVariants.{Do}
use Rattle.plan_runs.specs.declared.event.Reply.TheVariants.{Plain}
use Rattle.plan_runs.specs.World.{World}
use Rattle.plan_runs.specs.Guards.{has_other, guards}
use Rattle.plan_runs.specs.Effects.{changed, with_number, step_effect, effect}
use Rattle.plan_runs.proofs.Frames.{done_is}
use Rattle.plan_runs.proofs.Passed.{all_met}
use Rattle.store_parts.specs.declared.nodes.NodeNow.{NodeNow}
use Rattle.store_parts.specs.declared.slots.SlotNow.{SlotNow}
use Rattle.store_parts.specs.NodesTold.{NodesTell, step_leaves_nodes}
use Rattle.store_parts.specs.SlotsMeet.{SlotsMeet}
use Rattle.store_parts.specs.SlotsStepped.{StepsSlots, step_leaves_slots}
use Rattle.store_parts.proofs.NodesNow.{nodes_join, nodes_retire, nodes_stay_do}
use Rattle.store_parts.proofs.StepsNow.{steps_do}
use Rattle.store_parts.proofs.SlotsNow.{slots_do, slots_stay_do}
use Rattle.store_parts.specs.Kept.{Kept, Tells}
use Rattle.store_parts.proofs.StoreInWorld.{reached_of, suits_of}
use Rattle.store_events.specs.Acts.{Forgets, Acts}
use Rattle.store_events.proofs.TellsOnSteps.{LeadsOn, leads_on, stored_on, hinted_on, stored_left}

-- what a step that is done passes: it is not a copy
pub no_copy : (ring : RingValue) (plan : List Planned) (w : World) (n : ℕ) → first_failing (guards ring plan w (Do n)) ≡ None → has_other plan n ≡ true
unfolding guards
no_copy ring plan w n passes = (all_met (guards ring plan w (Do n)) passes).0

-- so it is another step
pub is_other : (plan : List Planned) (n : ℕ) (s : Step) → has_other plan n ≡ true → step_at plan n ≡ Some s → is_some (copy_of s) ≡ false
is_other plan n s h at = not-true (is_some (copy_of s)) (sym (ap (λ (o : Option Step). elim o as (λ _. Bool) [ Some t ↦ not (is_some (copy_of t)) | None ↦ false ]) at) ∙ h)

-- what is read is the plan, and what is read of it is its step
pub read_at : (plan read : List Planned) (n : ℕ) (s : Step) → read ≡ plan → option_map (λ (x : Planned). x.step) (slice_get read n) ≡ Some s → step_at plan n ≡ Some s
read_at plan read n s same e = subst (λ (p : List Planned). step_at p n ≡ Some s) same (by (slice_get read n) e)
  where
    by : (o : Option Planned) → option_map (λ (x : Planned). x.step) o ≡ Some s → (elim o as (λ _. Option Step) [ Some x ↦ Some x.step | None ↦ None ]) ≡ Some s
    by (Some x) f = f
    by None f = f

-- so its steps are as many
pub read_within : (plan read : List Planned) (n : ℕ) → read ≡ plan → n < length plan → n < length read
read_within plan read n same l = subst (λ (p : List Planned). n < length p) (sym same) l

module _ (ring : RingValue) (plan : List Planned) (old : Kept) (w : World) (n : ℕ) (m : Tells ring plan old w) (passes : first_failing (guards ring plan w (Do n)) ≡ None) where
  -- what is kept with the step finished
  abbrev finished : Kept → Kept
  finished k = record k { steps = changed k.steps n (λ a. record a { done = true; is_open = false }) }

  -- the parts that the step changes are given; the others are as before
  acts_on : (s : Step) (nodes : List NodeNow) (rows : List (List SlotNow)) → step_at plan n ≡ Some s → (step_effect (record w { done = with_number w.done n }) s).losses ≡ w.losses
      → (step_effect (record w { done = with_number w.done n }) s).stored ≡ w.stored → (step_effect (record w { done = with_number w.done n }) s).hinted ≡ w.hinted
      → NodesTell ring plan nodes (effect ring plan w (Do n)) → SlotsMeet ring plan rows (effect ring plan w (Do n))
      → LeadsOn ring plan w (Do n) Plain (finished (record old { nodes = nodes; rows = rows }))
  acts_on s nodes rows at losses stored hinted tell meet =
      let e = done_is ring plan w n s at in
      leads_on ring plan old w (Do n) nodes (changed old.steps n (λ a. record a { done = true; is_open = false })) rows old.losses old.stored old.hinted m passes refl refl (record {
        nodes = tell;
        steps = steps_do ring plan w n old.steps _ (reached_of ring plan old w m) passes m.steps refl;
        slots = meet;
        losses = m.losses ∙ sym (ap (λ (u : World). u.losses) e ∙ losses);
        stored = stored_on ring plan old w (Do n) m passes (ap (λ (u : World). u.stored) e ∙ stored);
        hinted = hinted_on ring plan old w (Do n) m passes (ap (λ (u : World). u.hinted) e ∙ hinted);
      })

  nodes_same : (s : Step) → step_at plan n ≡ Some s → step_leaves_nodes s ≡ true → NodesTell ring plan old.nodes (effect ring plan w (Do n))
  nodes_same s at leaves = nodes_stay_do ring plan old.nodes w n s at leaves passes m.nodes

  slots_same : (s : Step) → step_at plan n ≡ Some s → step_leaves_slots s ≡ true → SlotsMeet ring plan old.rows (effect ring plan w (Do n))
  slots_same s at leaves = slots_stay_do ring plan old.rows w n s m.is_ring m.is_plan m.approved.sound (reached_of ring plan old w m) at leaves passes m.slots

  slots_changed : (s : Step) (rows : List (List SlotNow)) → step_at plan n ≡ Some s → StepsSlots old.rows rows s → SlotsMeet ring plan rows (effect ring plan w (Do n))
  slots_changed s rows at change = slots_do ring plan w n s old.rows rows m.is_ring m.is_plan m.approved.sound (reached_of ring plan old w m) passes at m.slots change

  drop_on : (s : Slot) (x : NodeId) (stored : ℕ → Slot → List ℕ → List Version) → step_at plan n ≡ Some (step.Drop s x) → Forgets (λ y t. (y == x.0) && is_slot s t) old.stored stored → LeadsOn ring plan w (Do n) Plain (finished (record old { stored = stored }))
  drop_on s x stored at forgets =
      let e = done_is ring plan w n (step.Drop s x) at in
      leads_on ring plan old w (Do n) old.nodes (changed old.steps n (λ a. record a { done = true; is_open = false })) old.rows old.losses stored old.hinted m passes refl refl (record {
        nodes = nodes_same (step.Drop s x) at refl;
        steps = steps_do ring plan w n old.steps _ (reached_of ring plan old w m) passes m.steps refl;
        slots = slots_same (step.Drop s x) at refl;
        losses = m.losses ∙ sym (ap (λ (u : World). u.losses) e);
        stored = stored_left ring plan old w (Do n) (λ y t. (y == x.0) && is_slot s t) stored m passes (ap (λ (u : World). u.stored) e) forgets;
        hinted = hinted_on ring plan old w (Do n) m passes (ap (λ (u : World). u.hinted) e);
      })

  -- the kept parts are those that were given
  these : (new given : Kept) → new ≡ given → LeadsOn ring plan w (Do n) Plain (finished given) → LeadsOn ring plan w (Do n) Plain (finished new)
  these new given e l = subst (λ (k : Kept). LeadsOn ring plan w (Do n) Plain (finished k)) (sym e) l

  pub do_on : (s : Step) (new : Kept) → step_at plan n ≡ Some s → Acts old new s → LeadsOn ring plan w (Do n) Plain (record new { steps = changed new.steps n (λ a. record a { done = true; is_open = false }) })
  do_on (step.Join x) new at acts = these new _ acts (acts_on (step.Join x) _ old.rows at refl refl refl (nodes_join ring plan w n x old.nodes _ (suits_of ring plan old w m) at m.nodes refl) (slots_same (step.Join x) at refl))
  do_on (step.Mirror s x) new at acts = these new _ acts.0 (acts_on (step.Mirror s x) old.nodes new.rows at refl refl refl (nodes_same (step.Mirror s x) at refl) (slots_changed (step.Mirror s x) new.rows at acts.1))
  do_on (step.Copy s from) new at acts = absurd (let e = is_other plan n (step.Copy s from) (no_copy ring plan w n passes) at in cc)
  do_on (step.Switch s) new at acts = these new _ acts.0 (acts_on (step.Switch s) old.nodes new.rows at refl refl refl (nodes_same (step.Switch s) at refl) (slots_changed (step.Switch s) new.rows at acts.1))
  do_on (step.Drop s x) new at acts = these new _ acts.0 (drop_on s x new.stored at acts.1)
  do_on (step.Retire x) new at acts = these new _ acts (acts_on (step.Retire x) _ old.rows at refl refl refl (nodes_retire ring plan w n x old.nodes _ (suits_of ring plan old w m) at m.nodes refl) (slots_same (step.Retire x) at refl))
