use Rattle.plan_around.specs.Ending.{HintsIn}
use Rattle.plan_around.proofs.ending.hinted.Given as goal

abbrev pub invariant-loop-number : goal.invariant-loop-number
invariant-loop-number l = HintsIn l.it.before.now l.dead.nodes.now l.marks.items
