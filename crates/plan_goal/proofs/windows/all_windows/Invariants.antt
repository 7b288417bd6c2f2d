use Rattle.plan_goal.specs.Windows.{AreKept}
use Rattle.plan_goal.proofs.windows.all_windows.Given as goal

abbrev pub invariant-loop-plan : goal.invariant-loop-plan
invariant-loop-plan l = AreKept l.fn.first l.yielded l.fn.only l.asked l.next
