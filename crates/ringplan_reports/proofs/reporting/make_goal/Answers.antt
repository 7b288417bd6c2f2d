use Rattle.std.proofs.lemmas.Result.{IfOk-weaker}
use Rattle.ringplan_reports.proofs.reporting.make_goal.Goals as goal

pub returns : goal.returns
returns c = IfOk-weaker c.bundle.result _ _ (λ text is. (c.in_ok-found.found, c.in_ok-found.ensures.led, is)) c.bundle.ensures.text
