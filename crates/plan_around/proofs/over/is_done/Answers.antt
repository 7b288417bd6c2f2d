use Rattle.ring_core.specs.World.{ring_of, plan_of}
use Rattle.plan_around.proofs.Refusing.{told-done}
use Rattle.plan_around.proofs.over.is_done.Goals as goal

pub returns : goal.returns
returns c = λ t w m. told-done (ring_of c.args.store.now) (plan_of c.args.store.now) w c.args.number (c.has_happened.ensures t w m)
