use Rattle.std.proofs.Common.{ap, arith, take}
use Rattle.plan_text.specs.Steps.{dependencies}
use Rattle.plan_goal.proofs.Joining.{dependencies-none}
use Rattle.plan_goal.proofs.alone.joins_alone.Goals as goal

pub push-requires-clause-dependencies : goal.push-requires-clause-dependencies
push-requires-clause-dependencies c = omega (arith, ap dependencies c.loop-node.invariant, dependencies-none (take c.loop-node.node-index c.args.nodes.now))
