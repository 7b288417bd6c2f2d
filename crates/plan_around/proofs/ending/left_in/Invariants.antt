use Rattle.plan_around.specs.Ending.{StaysIn}
use Rattle.plan_around.proofs.ending.left_in.Given as goal

abbrev pub invariant-loop-place : goal.invariant-loop-place
invariant-loop-place l = StaysIn l.it.left.now l.marks.items
