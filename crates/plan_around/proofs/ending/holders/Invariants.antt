use Rattle.plan_around.specs.Ending.{HoldsIn}
use Rattle.plan_around.proofs.ending.holders.Given as goal

abbrev pub invariant-loop-partition : goal.invariant-loop-partition
invariant-loop-partition l = HoldsIn l.it l.marks.items
