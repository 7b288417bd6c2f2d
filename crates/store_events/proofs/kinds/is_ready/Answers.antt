use Rattle.std.proofs.Common.{◌≡◌, ◌∙◌, List, subst}
use Rattle.plan_text.specs.declared.step.Planned.{Planned}
use Rattle.store_parts.specs.GuardsKept.{is_ready_kept}
use Rattle.store_events.proofs.EventTests.{ready_is}
use Rattle.store_events.proofs.kinds.is_ready.Goals as goal

pub returns : goal.returns
returns c =
    let a = c.args.parts.now in
    let e = c.are_done.ensures ∙ ready_is c.plan.result.now a.steps c.args.step c.deps.result.now c.deps.ensures.value in
    subst (λ (plan : List Planned). c.are_done.result ≡ is_ready_kept plan a.steps c.args.step) c.plan.ensures.value e
