use Rattle.std.proofs.lemmas.Result.{IfOk-weaker}
use Rattle.ringplan_reports.proofs.windows.windows_bundle.Goals as goal

pub returns : goal.returns
returns c =
    let a = c.in_ok-found.found.approved in
    record { windows = IfOk-weaker c.cut_plan.result _ _ (λ text is. (a.ring, a.plan, c.in_ok-found.ensures.of, c.cut_plan.ensures.approved, is)) c.cut_plan.ensures.windows }
