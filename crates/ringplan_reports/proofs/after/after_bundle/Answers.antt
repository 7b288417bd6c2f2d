use Rattle.std.proofs.Common.{inr}
use Rattle.std.proofs.lemmas.Result.{IfOk-weaker}
use Rattle.ringplan_reports.proofs.after.after_bundle.Goals as goal

pub returns-in_ok-found-in-Change : goal.returns-in_ok-found-in-Change
returns-in_ok-found-in-Change c = record { after = IfOk-weaker c.ring_left.result _ _ (λ text is. inr is) c.ring_left.ensures }

pub returns-in_ok-study_plan-in-Plan : goal.returns-in_ok-study_plan-in-Plan
returns-in_ok-study_plan-in-Plan c = record { after = IfOk-weaker c.ring_left-in-Plan.result _ _ (λ text is. inr is) c.ring_left-in-Plan.ensures }
