use Rattle.std.proofs.lemmas.Result.{IfOk-weaker}
use Rattle.ringplan_reports.proofs.cert.planned.Goals as goal

pub returns : goal.returns
returns c = IfOk-weaker c.bundle.result _ _ (λ v is. (c.new.result, c.in_ok-found.found, c.in_ok-found.ensures.reached, is)) c.bundle.ensures.text
