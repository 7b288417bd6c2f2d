use Rattle.std.proofs.Common.{rules, sym, subst, List}
use Rattle.plan_text.specs.declared.step.Step.TheVariants.{Mirror, Copy}
use Rattle.plan_order.specs.Order.{order}
use Rattle.plan_stage.specs.Clauses.{Guard, Gives}
use Rattle.plan_stage.proofs.Tested.{step-is, at-mirror, at-copy}
use Rattle.plan_stage.proofs.clauses.check_step.Goals as goal

pub returns-in-Mirror : goal.returns-in-Mirror
returns-in-Mirror c =
    let plan = c.args.context.now.plan.now in
    let at = step-is plan c.args.number (Mirror c.in-Mirror.slot c.in-Mirror.node) c.step.result.now c.step.ensures.value c.in-Mirror.is in
    subst (λ (cs : List Guard). Gives c.check_mirror.result cs) (sym (at-mirror c.args.context.now.ring.now plan (order c.args.context.now) c.args.partition c.args.number c.in-Mirror.slot c.in-Mirror.node at c.if-slot-partition.true)) c.check_mirror.ensures

pub returns-in-Copy : goal.returns-in-Copy
returns-in-Copy c =
    let plan = c.args.context.now.plan.now in
    let at = step-is plan c.args.number (Copy c.in-Copy.slot c.in-Copy.source) c.step.result.now c.step.ensures.value c.in-Copy.is in
    subst (λ (cs : List Guard). Gives c.check_copy.result cs) (sym (at-copy c.args.context.now.ring.now plan (order c.args.context.now) c.args.partition c.args.number c.in-Copy.slot c.in-Copy.source at c.if-slot-partition-2.true)) c.check_copy.ensures

pub returns-else-has_dropped : goal.returns-else-has_dropped
returns-else-has_dropped c = search rules
