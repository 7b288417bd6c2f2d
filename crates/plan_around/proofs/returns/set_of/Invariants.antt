use Rattle.plan_around.specs.Alike.{AreNamed}
use Rattle.plan_around.proofs.returns.set_of.Given as goal

abbrev pub invariant-loop-place : goal.invariant-loop-place
invariant-loop-place l = AreNamed l.set l.left
