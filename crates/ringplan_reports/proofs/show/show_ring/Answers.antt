use Rattle.ringplan_reports.specs.Studies.{of_ring}
use Rattle.ringplan_reports.proofs.Kept.{kept}
use Rattle.ringplan_reports.proofs.show.show_ring.Goals as goal

pub returns : goal.returns
returns c =
    let read = c.in_ok-ring in
    record { shown = kept c.ring_summary.result (of_ring (read.ring, read.ensures.found.1)) }
