use Rattle.plan_around.specs.Ending.{HoldsIn}
use Rattle.plan_around.proofs.ending.mark_keepers.Given as goal

abbrev pub invariant-loop-number : goal.invariant-loop-number
invariant-loop-number l = HoldsIn l.it l.marks.items
