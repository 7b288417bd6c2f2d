use Rattle.texts.proofs.Lates.{late-whole, two-lines}
use Rattle.plan_text.specs.Reading.{plan_at}
use Rattle.plan_text.proofs.reading.read_whole.Goals as goal

pub returns-in_err-plan-clause-late : goal.returns-in_err-plan-clause-late
returns-in_err-plan-clause-late c = late-whole 2 3 c.from_residual.result c.in_err-plan.field-0.0 c.args.text.now c.of-lines.result c.read_plan_section.new.lines (plan_at c.args.ring.now) two-lines c.from_residual.ensures.1 c.of-lines.ensures c.in_err-plan.ensures.late
