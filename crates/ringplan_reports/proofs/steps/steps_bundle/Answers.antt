use Rattle.std.proofs.lemmas.Result.{IfOk-weaker}
use Rattle.ringplan_reports.proofs.steps.steps_bundle.Goals as goal

pub returns : goal.returns
returns c =
    let a = c.in_ok-found.found.approved in
    record { steps = IfOk-weaker c.steps_of.result _ _ (λ text is. (a.ring, a.plan, c.in_ok-found.ensures.of, c.steps_of.ensures.approved, is)) c.steps_of.ensures.text }
