use Rattle.texts.proofs.Lates.{late-part}
use Rattle.plan_text.specs.Reading.{plan_at}
use Rattle.plan_text.proofs.PlanLates.{plan-steps}
use Rattle.plan_text.proofs.reading.read_parts.Goals as goal

pub returns-in_err-plan-clause-late : goal.returns-in_err-plan-clause-late
returns-in_err-plan-clause-late c = late-part 2 c.from_residual-in_err-plan.result c.in_err-plan.field-0.0 c.args.lines.now c.read_steps.new.lines (plan_at c.args.ring.now c.args.lines.now) c.from_residual-in_err-plan.ensures.1 c.in_err-plan.ensures.late
    (λ p. (rw c.in_ok-header.ensures.line at p.0, plan-steps c.args.ring.now c.args.lines.now c.header.new.lines c.in_ok-header.field-0 c.in_ok-header.ensures.read c.read_steps.new.lines.line p.1))
