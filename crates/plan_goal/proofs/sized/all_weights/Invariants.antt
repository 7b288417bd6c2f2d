use Rattle.std.proofs.Common.{◌≡◌}
use Rattle.plan_goal.specs.Sized.{sum_below, weight_in}
use Rattle.plan_goal.proofs.sized.all_weights.Given as goal

abbrev pub invariant-nodes : goal.invariant-nodes
invariant-nodes l = l.sum ≡ sum_below (weight_in l.weights l.ring) l.node
