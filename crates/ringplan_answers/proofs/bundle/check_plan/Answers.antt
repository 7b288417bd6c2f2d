use Rattle.std.proofs.Common.{ap}
use Rattle.ringplan_answers.specs.Verdict.{judged}
use Rattle.ringplan_answers.proofs.bundle.check_plan.Goals as goal

pub returns-then-ends-clause-answer : goal.returns-then-ends-clause-answer
returns-then-ends-clause-answer c = ap judged c.in-Ok.ensures.accepted

pub returns-else-ends-clause-answer : goal.returns-else-ends-clause-answer
returns-else-ends-clause-answer c = ap judged c.in-Ok.ensures.accepted

pub returns-clause-answer : goal.returns-clause-answer
returns-clause-answer c = λ other. ap judged (c.in-Err.ensures.refused other)
