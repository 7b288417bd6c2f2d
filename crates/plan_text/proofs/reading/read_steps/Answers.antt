use Rattle.texts.proofs.Lates.{late-part}
use Rattle.plan_text.specs.Reading.{steps_at}
use Rattle.plan_text.proofs.PlanLates.{steps-at}
use Rattle.plan_text.proofs.reading.read_steps.Goals as goal

pub returns-in_err-read_into-clause-late : goal.returns-in_err-read_into-clause-late
returns-in_err-read_into-clause-late c =
    let late = rw (c.new-plan.ensures, steps-at c.args.ring.now c.args.lines.now) at c.in_err-read_into.ensures.late in
    late-part 1 c.from_residual.result c.in_err-read_into.field-0.0 c.args.lines.now c.read_into.new.lines (steps_at c.args.ring.now c.args.lines.now) c.from_residual.ensures.1 late (λ p. p)
