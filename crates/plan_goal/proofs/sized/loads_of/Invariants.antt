use Rattle.std.proofs.Common.{◌≡◌}
use Rattle.plan_goal.specs.Sized.{loads_below}
use Rattle.plan_goal.proofs.sized.loads_of.Given as goal

abbrev pub invariant-rows : goal.invariant-rows
invariant-rows l = l.loads.items ≡ loads_below l.sizes l.rows l.nodes l.partition
