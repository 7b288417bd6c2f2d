use Rattle.std.proofs.Common.{◌≡◌}
use Rattle.plan_goal.specs.Rings.{flags}
use Rattle.plan_goal.specs.Sized.{takes}
use Rattle.plan_goal.proofs.sized.Shares.flags.Given as goal

abbrev pub invariant-nodes : goal.invariant-nodes
invariant-nodes l = l.takers.items ≡ flags (takes l.self.joins.now l.self.loads.now l.self.stored l.self.weights.now l.self.all) l.node
