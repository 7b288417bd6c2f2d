use Rattle.std.proofs.Common.{ℕ, ◌<◌}
use Rattle.plan_around.specs.Ending.{NodeEnds}
use Rattle.plan_around.proofs.ending.nodes_end.Given as goal

abbrev pub invariant-loop-node : goal.invariant-loop-node
invariant-loop-node l = (x : ℕ) → x < l.node → NodeEnds l.it x
