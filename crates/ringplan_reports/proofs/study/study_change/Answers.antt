use Rattle.std.proofs.Common.{refl}
use Rattle.ringplan_reports.specs.Studies.{of_change}
use Rattle.ringplan_reports.proofs.study.study_change.Goals as goal

pub returns-clause-of : goal.returns-clause-of
returns-clause-of c = of_change c.args.options.now c.in_ok-approved.field-0 c.in_ok-approved.ensures.reached refl refl
