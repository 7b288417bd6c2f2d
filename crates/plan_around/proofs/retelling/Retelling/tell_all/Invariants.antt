use Rattle.plan_around.specs.Led.{GoesFarther}
use Rattle.plan_around.proofs.retelling.Retelling.tell_all.Given as goal

abbrev pub invariant-loop-entry : goal.invariant-loop-entry
invariant-loop-entry l = GoesFarther l.fn.self.led l.self.led
