use Rattle.std.proofs.Common.{sym}
use Rattle.std.proofs.lemmas.Result.{IfOk-weaker}
use Rattle.ringplan_reports.specs.Studies.{of_plan}
use Rattle.ringplan_reports.proofs.study.study_plan.Goals as goal

pub returns-clause-of : goal.returns-clause-of
returns-clause-of c =
    let b = c.in_ok-bundle in
    IfOk-weaker c.accepted.result _ _ (λ s same. of_plan b.bundle b.ensures.read (sym same.0) (sym same.1)) c.accepted.ensures.same
