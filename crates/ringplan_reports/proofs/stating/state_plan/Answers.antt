use Rattle.ringplan_reports.specs.Studies.{of_approved}
use Rattle.ringplan_reports.proofs.Kept.{of_all}
use Rattle.ringplan_reports.proofs.stating.state_plan.Goals as goal

pub returns-in-Ok-clause-yes : goal.returns-in-Ok-clause-yes
returns-in-Ok-clause-yes c =
    let a = c.in-Ok.found.approved in
    of_all c.state_studied.result (λ x zero. of_approved (a.ring, a.plan, c.in-Ok.ensures.of, c.plan.ensures.approved))
