use Rattle.std.proofs.Common.{sym, subst, IfOk}
use Rattle.ringplan_request.specs.declared.making.Making.{Making}
use Rattle.ringplan_reports.specs.Made.{IsMade}
use Rattle.ringplan_reports.proofs.reporting.make_of.Goals as goal

pub returns-in-Goal : goal.returns-in-Goal
returns-in-Goal c = subst (λ (m : Making). IfOk c.make_goal.result (λ text. IsMade m c.args.options.now c.args.bytes.now text.items)) (sym c.in-Goal.is) c.make_goal.ensures
