use Rattle.std.proofs.Common.{IfOk, sym, subst}
use Rattle.ringplan_request.specs.declared.making.Statement.{Statement}
use Rattle.ringplan_reports.specs.Made.{IsStated}
use Rattle.ringplan_reports.proofs.Kept.{both, weaker}
use Rattle.ringplan_reports.proofs.Whys.{yes_of_study}
use Rattle.ringplan_reports.proofs.stating.state_bundle.Goals as goal

pub returns-in-Why : goal.returns-in-Why
returns-in-Why c =
    let r = c.state_why.result in
    subst (λ (s : Statement). IfOk r (λ a. IsStated s c.args.options.now c.args.bytes.now a.status)) (sym c.in-Why.is)
    (weaker r (both _ _ r c.state_why.ensures.yes c.state_why.ensures.few) (λ a p. (λ zero. yes_of_study c.args.bytes.now (p.0 zero), p.1)))
