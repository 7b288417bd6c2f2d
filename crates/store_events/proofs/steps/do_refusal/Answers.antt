use Rattle.std.proofs.Common.{◌∙◌, sym}
use Rattle.store_parts.specs.Parts.{plan_of}
use Rattle.store_events.proofs.RequiresMet.{other_there}
use Rattle.store_events.proofs.StepsOn.{read_at, read_within}
use Rattle.store_events.proofs.EventTests.{do_unknown, do_done, do_unready, do_ready}
use Rattle.store_events.proofs.steps.do_refusal.Goals as goal

pub returns-then-not-has_other : goal.returns-then-not-has_other
returns-then-not-has_other c = do_unknown c.args.parts.now c.args.step (sym c.has_other.ensures ∙ c.if-not-has_other.true)

pub returns-then-is_done : goal.returns-then-is_done
returns-then-is_done c = do_done c.args.parts.now c.args.step (sym c.has_other.ensures ∙ c.if-not-has_other.false) (sym c.is_done.ensures ∙ c.if-is_done.true)

pub is_ready-requires : goal.is_ready-requires
is_ready-requires c = other_there (plan_of c.args.parts.now) c.args.step (sym c.has_other.ensures ∙ c.if-not-has_other.false)

pub returns-then-not-is_ready : goal.returns-then-not-is_ready
returns-then-not-is_ready c = do_unready c.args.parts.now c.args.step (sym c.has_other.ensures ∙ c.if-not-has_other.false) (sym c.is_done.ensures ∙ c.if-is_done.false) (sym c.is_ready.ensures ∙ c.if-not-is_ready.true)

pub step-requires : goal.step-requires
step-requires c =
    let plan = plan_of c.args.parts.now in
    read_within plan c.plan.result.now c.args.step c.plan.ensures.value (other_there plan c.args.step (sym c.has_other.ensures ∙ c.if-not-has_other.false))

pub returns : goal.returns
returns c =
    let at = read_at (plan_of c.args.parts.now) c.plan.result.now c.args.step c.step.result.now c.plan.ensures.value c.step.ensures.value in
    do_ready c.args.parts.now c.args.step c.kind_refusal.result c.step.result.now (sym c.has_other.ensures ∙ c.if-not-has_other.false) (sym c.is_done.ensures ∙ c.if-is_done.false)
    (sym c.is_ready.ensures ∙ c.if-not-is_ready.false) at c.kind_refusal.ensures
