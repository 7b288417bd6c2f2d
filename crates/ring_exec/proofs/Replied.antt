-- The kind of reply that an event is answered.
use Rattle.std.proofs.Common.{◌≡◌, true, List, refl, subst}
use Rattle.std.proofs.Props.{props}
use Rattle.ring_table.specs.Value.{RingValue}
use Rattle.plan_text.specs.declared.step.Planned.{Planned}
use Rattle.plan_runs.specs.declared.event.Event.{Event}
use Rattle.plan_runs.specs.declared.event.Event.TheVariants.{StartPut}
use Rattle.plan_runs.specs.declared.event.Reply.{Reply}
use Rattle.plan_runs.specs.Answers.{reply_to}
use Rattle.plan_runs.specs.World.{World as TheWorld}
use Rattle.plan_runs.proofs.Answered.{answered}
use Rattle.ring_core.proofs.StoreInWorld.{holds}
use Rattle.ring_core.specs.declared.world.World.{World}
use Rattle.ring_core.specs.World.{ring_of, plan_of, Answers}
use Rattle.ring_exec.specs.Replies.{fits_reply}

fits : (ring : RingValue) (plan : List Planned) (w : TheWorld) (e : Event) → fits_reply e (reply_to ring plan w e) ≡ true
fits ring plan w (StartPut x k v s) = refl
fits ring plan w e = refl

-- a store answers each event the kind of reply that it has
pub fits_there : (old new : World) (e : Event) (r : Reply) → Answers old e r new → fits_reply e r ≡ true
fits_there old new e r answers =
    holds old.parts old.sound (hlevel props) (λ w m. (
    let there = answers w m in
    subst (λ (x : Reply). fits_reply e x ≡ true) (answered (ring_of old) (plan_of old) w there.0 e r there.1).2 (fits (ring_of old) (plan_of old) w e)))
