use Rattle.std.proofs.Common.{◌∙◌, ap}
use Rattle.std.proofs.lemmas.Result.{IfOk-weaker}
use Rattle.ring_table.specs.Changed.{changed}
use Rattle.plan_goal.proofs.goal.wished_ring.Goals as goal

pub returns : goal.returns
returns c =
    let ring = c.args.ring.now in
    let members = c.as_slice-2.ensures.value ∙ c.in_ok-members.ensures in
    IfOk-weaker c.with.result _ _ (λ v is. (c.as_slice.result.now, is ∙ ap (changed ring c.as_slice.result.now) members)) c.with.ensures.ok
