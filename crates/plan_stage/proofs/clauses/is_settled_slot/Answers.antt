use Rattle.std.proofs.Common.{◌∙◌, ap}
use Rattle.std.specs.List.{list_all}
use Rattle.plan_order.specs.Order.{order}
use Rattle.plan_stage.specs.Looking.Asked.{is_settling}
use Rattle.plan_stage.proofs.Asking.{settled-is}
use Rattle.plan_stage.proofs.clauses.is_settled_slot.Goals as goal

pub returns : goal.returns
returns c =
    let O = order c.args.context.now in
    c.are_settled.ensures ∙ ap (list_all (is_settling c.args.context.now.plan.now O c.args.number)) c.slot_steps.ensures.value ∙ settled-is c.args.context.now.plan.now O c.args.number c.args.slot
