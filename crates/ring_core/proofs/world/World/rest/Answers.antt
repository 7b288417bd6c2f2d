use Rattle.ring_core.proofs.RestSame.{ready_at}
use Rattle.ring_core.proofs.world.World.rest.Goals as goal

pub returns-clause-ready : goal.returns-clause-ready
returns-clause-ready c = ready_at c.args.self c.of.result c.of.ensures
