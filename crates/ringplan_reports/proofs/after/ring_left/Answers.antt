use Rattle.std.proofs.Common.{◌∙◌, ap}
use Rattle.std.proofs.lemmas.Result.{IfOk-weaker}
use Rattle.ring_table.specs.Spelling.{ring_text}
use Rattle.ringplan_reports.proofs.after.ring_left.Goals as goal

pub returns : goal.returns
returns c =
    let a = c.args.found.now.approved in
    IfOk-weaker c.write_ring.result _ _ (λ text is. (a.ring, a.plan, c.requires, c.plan.ensures.approved, is ∙ ap ring_text c.in_ok-ring_after.ensures)) c.write_ring.ensures.text
