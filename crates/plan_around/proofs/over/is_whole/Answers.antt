use Rattle.ring_core.specs.World.{ring_of, plan_of}
use Rattle.plan_around.proofs.Refusing.{told-whole}
use Rattle.plan_around.proofs.over.is_whole.Goals as goal

pub returns-in-Ok : goal.returns-in-Ok
returns-in-Ok c = λ t w m. told-whole (ring_of c.args.store.now) (plan_of c.args.store.now) w c.args.number (c.in-Ok.ensures.ok w m)
