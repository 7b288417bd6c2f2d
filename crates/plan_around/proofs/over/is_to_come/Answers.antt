use Rattle.std.proofs.Common.{subst}
use Rattle.ring_names.specs.declared.refusal.Refusal.{Refusal}
use Rattle.plan_runs.specs.declared.event.Event.TheVariants.{Do}
use Rattle.ring_core.specs.World.{ring_of, plan_of, Refuses}
use Rattle.plan_around.proofs.Refusing.{told-free, told-waiting}
use Rattle.plan_around.proofs.over.is_to_come.Goals as goal

pub returns-in-Ok : goal.returns-in-Ok
returns-in-Ok c = λ t w m. told-free (ring_of c.args.store.now) (plan_of c.args.store.now) w c.args.number (c.in-Ok.ensures.ok w m)

pub returns : goal.returns
returns c = λ t w m. told-waiting (ring_of c.args.store.now) (plan_of c.args.store.now) w c.args.number
    (subst (λ (e : Refusal). Refuses c.args.store.now (Do c.args.number) e) (c.is_not_ready.ensures t) c.in-Err.ensures.err.1 w m)
