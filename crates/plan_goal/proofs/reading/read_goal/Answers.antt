use Rattle.std.proofs.Common.{sym}
use Rattle.texts.proofs.Lates.{late-whole, four-lines}
use Rattle.texts.specs.Left.{whole_text}
use Rattle.plan_goal.specs.Goals.{goal_at}
use Rattle.plan_goal.proofs.reading.read_goal.Goals as goal
use Rattle.texts.proofs.PartLaws.{over-late}

pub returns-in_err-goal-clause-late : goal.returns-in_err-goal-clause-late
returns-in_err-goal-clause-late c = late-whole 4 5 c.from_residual.result c.in_err-goal.field-0.0 c.args.bytes.now c.of-lines.result c.read_both.new.lines goal_at four-lines c.from_residual.ensures.1 c.of-lines.ensures c.in_err-goal.ensures.late

pub returns-in_err-ended-clause-late : goal.returns-in_err-ended-clause-late
returns-in_err-ended-clause-late c = over-late 5 c.from_residual-in_err-ended.result c.in_err-ended.field-0.0 c.read_both.new.lines (whole_text goal_at c.args.bytes.now) c.from_residual-in_err-ended.ensures.1 (sym c.in_err-ended.ensures)
