use Rattle.ringplan_reports.proofs.Kept.{of_all}
use Rattle.ringplan_reports.proofs.stating.state_why.Goals as goal

pub returns-in-Ok-clause-yes : goal.returns-in-Ok-clause-yes
returns-in-Ok-clause-yes c =
    let a = c.in-Ok.found.approved in
    of_all c.state_accepted.result (λ x zero. (a.ring, a.plan, c.in-Ok.ensures.of, c.plan.ensures.approved))
