use Rattle.plan_around.specs.Led.{GoesFarther}
use Rattle.plan_around.proofs.retelling.Retelling.write_latest.Given as goal

abbrev pub invariant-loop-put : goal.invariant-loop-put
invariant-loop-put l = GoesFarther l.fn.self.led l.self.led
