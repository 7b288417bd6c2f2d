use Rattle.ringplan_reports.specs.Made.{stated, told}
use Rattle.ringplan_reports.proofs.Kept.{both, weaker}
use Rattle.ringplan_reports.proofs.reporting.report_bundle.Goals as goal

pub returns-in-Why : goal.returns-in-Why
returns-in-Why c =
    let r = c.report_why.result in
    weaker r (both _ _ r c.report_why.ensures.why c.report_why.ensures.few) (λ a p. told _ c.in-Why.is p.0 p.1)

pub returns-in-State : goal.returns-in-State
returns-in-State c = weaker c.report_stated.result c.report_stated.ensures (λ a p. stated _ c.in-State.is p)
