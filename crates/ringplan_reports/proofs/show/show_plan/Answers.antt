use Rattle.ringplan_reports.specs.Studies.{of_approved}
use Rattle.ringplan_reports.proofs.Kept.{kept}
use Rattle.ringplan_reports.proofs.show.show_plan.Goals as goal

pub returns : goal.returns
returns c =
    let a = c.in_ok-found.found.approved in
    record { shown = kept c.summary.result (of_approved (a.ring, a.plan, c.in_ok-found.ensures.of, c.ring-ring.ensures.approved)) }
