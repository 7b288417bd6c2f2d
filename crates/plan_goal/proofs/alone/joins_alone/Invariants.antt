use Rattle.std.proofs.Common.{◌≡◌, take}
use Rattle.plan_goal.specs.Joins.{joins_alone}
use Rattle.plan_goal.proofs.alone.joins_alone.Given as goal

abbrev pub invariant-loop-node : goal.invariant-loop-node
invariant-loop-node l = l.plan ≡ joins_alone (take l.node-index l.nodes)
