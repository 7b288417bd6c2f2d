-- Copies are opened, closed and broken off, and what a store keeps tells of the next world.
use Rattle.std.proofs.Common.{◌≡◌, ℕ, true, false, List, refl}
use Rattle.std.specs.Prelude.{None}
use Rattle.ring_table.specs.Value.{RingValue}
use Rattle.plan_text.specs.declared.step.Planned.{Planned}
use Rattle.plan_stage.specs.Clauses.{first_failing}
use Rattle.plan_runs.specs.declared.event.Event.TheVariants.{OpenCopy, CloseCopy, AbortCopy}
use Rattle.plan_runs.specs.declared.event.Reply.TheVariants.{Plain}
use Rattle.plan_runs.specs.World.{World}
use Rattle.plan_runs.specs.Guards.{guards}
use Rattle.plan_runs.specs.Effects.{changed, effect}
use Rattle.store_parts.specs.declared.steps.StepNow.{StepNow}
use Rattle.store_parts.proofs.NodesNow.{nodes_stay}
use Rattle.store_parts.proofs.StepsNow.{steps_open, steps_close, steps_abort}
use Rattle.store_parts.proofs.SlotsNow.{slots_stay}
use Rattle.store_parts.specs.Kept.{Kept, Tells}
use Rattle.store_parts.proofs.StoreInWorld.{reached_of}
use Rattle.store_events.proofs.TellsOnSteps.{LeadsOn, leads_on, stored_on, hinted_on}

module _ (ring : RingValue) (plan : List Planned) (k : Kept) (w : World) (n : ℕ) (m : Tells ring plan k w) (steps : List StepNow) where
  pub open_on : first_failing (guards ring plan w (OpenCopy n)) ≡ None → steps ≡ changed k.steps n (λ a. record a { is_open = true }) → LeadsOn ring plan w (OpenCopy n) Plain (record k { steps = steps })
  unfolding effect
  open_on passes e = leads_on ring plan k w (OpenCopy n) k.nodes steps k.rows k.losses k.stored k.hinted m passes refl refl (record {
    nodes = nodes_stay ring plan k.nodes w (OpenCopy n) refl passes m.nodes;
    steps = steps_open ring plan w n k.steps steps passes m.steps e;
    slots = slots_stay ring plan k.rows w (OpenCopy n) m.is_ring m.is_plan m.approved.sound (reached_of ring plan k w m) refl passes m.slots;
    losses = m.losses;
    stored = stored_on ring plan k w (OpenCopy n) m passes refl;
    hinted = hinted_on ring plan k w (OpenCopy n) m passes refl;
  })

  pub close_on : first_failing (guards ring plan w (CloseCopy n)) ≡ None → steps ≡ changed k.steps n (λ a. record a { done = true; is_open = false }) → LeadsOn ring plan w (CloseCopy n) Plain (record k { steps = steps })
  unfolding effect
  close_on passes e = leads_on ring plan k w (CloseCopy n) k.nodes steps k.rows k.losses k.stored k.hinted m passes refl refl (record {
    nodes = nodes_stay ring plan k.nodes w (CloseCopy n) refl passes m.nodes;
    steps = steps_close ring plan w n k.steps steps passes m.steps e;
    slots = slots_stay ring plan k.rows w (CloseCopy n) m.is_ring m.is_plan m.approved.sound (reached_of ring plan k w m) refl passes m.slots;
    losses = m.losses;
    stored = stored_on ring plan k w (CloseCopy n) m passes refl;
    hinted = hinted_on ring plan k w (CloseCopy n) m passes refl;
  })

  pub abort_on : first_failing (guards ring plan w (AbortCopy n)) ≡ None → steps ≡ changed k.steps n (λ a. record a { is_open = false }) → LeadsOn ring plan w (AbortCopy n) Plain (record k { steps = steps })
  unfolding effect
  abort_on passes e = leads_on ring plan k w (AbortCopy n) k.nodes steps k.rows k.losses k.stored k.hinted m passes refl refl (record {
    nodes = nodes_stay ring plan k.nodes w (AbortCopy n) refl passes m.nodes;
    steps = steps_abort ring plan w n k.steps steps m.steps e;
    slots = slots_stay ring plan k.rows w (AbortCopy n) m.is_ring m.is_plan m.approved.sound (reached_of ring plan k w m) refl passes m.slots;
    losses = m.losses;
    stored = stored_on ring plan k w (AbortCopy n) m passes refl;
    hinted = hinted_on ring plan k w (AbortCopy n) m passes refl;
  })
