use Rattle.std.proofs.lemmas.Result.{IfOk-weaker}
use Rattle.ringplan_reports.specs.Studies.{unbegun}
use Rattle.ringplan_reports.proofs.study.studied.Goals as goal

pub returns-in-Change-clause-of : goal.returns-in-Change-clause-of
returns-in-Change-clause-of c = IfOk-weaker c.study_change.result _ _ (λ s is. unbegun is) c.study_change.ensures.of

pub returns-in-Plan-clause-of : goal.returns-in-Plan-clause-of
returns-in-Plan-clause-of c = IfOk-weaker c.study_plan.result _ _ (λ s is. unbegun is) c.study_plan.ensures.of
