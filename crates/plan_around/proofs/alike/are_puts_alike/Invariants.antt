use Rattle.plan_around.specs.Alike.{AreAlikeIn}
use Rattle.plan_around.proofs.alike.are_puts_alike.Given as goal

abbrev pub invariant-loop-put : goal.invariant-loop-put
invariant-loop-put l = AreAlikeIn l.it.a.now l.it.b.now l.marks.items
