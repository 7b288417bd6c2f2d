use Rattle.std.proofs.Common.{◌≡◌, drop}
use Rattle.plan_order.specs.Paths.{first_bad}
use Rattle.plan_order.proofs.facts.first_bad_path.Given as goal

abbrev pub invariant-loop-number : goal.invariant-loop-number
invariant-loop-number l = first_bad l.plan l.number (drop l.number l.paths) ≡ first_bad l.plan 0 l.paths
