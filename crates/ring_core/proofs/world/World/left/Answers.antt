use Rattle.std.proofs.Common.{◌∙◌}
use Rattle.ring_core.proofs.StepsLeft.{left_is}
use Rattle.ring_core.specs.World.{plan_of}
use Rattle.ring_core.proofs.world.World.left.Goals as goal

pub returns : goal.returns
returns c w m = c.left.ensures ∙ left_is (plan_of c.args.self.now) c.args.self.now.parts.steps w m.steps
