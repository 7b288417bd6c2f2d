use Rattle.std.proofs.Common.{◌∙◌, inl, inr}
use Rattle.ringplan_reports.proofs.Kept.{weaker}
use Rattle.ringplan_reports.proofs.stating.state_goal.Goals as goal

pub returns-in_ok-object-in-Ok : goal.returns-in_ok-object-in-Ok
returns-in_ok-object-in-Ok c = weaker c.answer.result c.answer.ensures (λ a e.
    inl (elim c.goal_status.ensures [ inl zero ↦ inl (e ∙ zero) | inr four ↦ inr (e ∙ four.0, four.1) ], (c.in-Ok.found, c.in-Ok.ensures.led)))
