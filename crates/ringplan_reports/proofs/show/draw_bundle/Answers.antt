use Rattle.ringplan_reports.proofs.Kept.{kept}
use Rattle.ringplan_reports.proofs.show.draw_bundle.Goals as goal

pub returns : goal.returns
returns c =
    let a = c.in_ok-found.found.approved in
    record { approved = kept c.drawn.result (a.ring, a.plan, c.in_ok-found.ensures.of, c.ring-ring.ensures.approved) }
