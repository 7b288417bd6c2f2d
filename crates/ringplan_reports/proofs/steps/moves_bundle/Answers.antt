use Rattle.std.proofs.lemmas.Result.{IfOk-weaker}
use Rattle.ringplan_reports.proofs.steps.moves_bundle.Goals as goal

pub returns : goal.returns
returns c =
    let a = c.in_ok-found.found.approved in
    record { moves = IfOk-weaker c.moves_of.result _ _ (λ text is. (a.ring, a.plan, c.in_ok-found.ensures.of, c.moves_of.ensures.approved, is)) c.moves_of.ensures.text }
