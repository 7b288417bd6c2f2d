use Rattle.plan_around.specs.Ending.{HoldsIn}
use Rattle.plan_around.proofs.ending.mark_owners.Given as goal

abbrev pub invariant-loop-index : goal.invariant-loop-index
invariant-loop-index l = HoldsIn l.it l.marks.items
