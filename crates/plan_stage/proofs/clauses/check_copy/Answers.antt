use Rattle.std.proofs.Common.{ℕ, ◌∙◌, sym, ap, subst, List}
use Rattle.plan_text.specs.declared.step.Source.{Source}
use Rattle.plan_text.specs.declared.step.Step.TheVariants.{Copy}
use Rattle.plan_order.specs.Order.{order}
use Rattle.plan_stage.specs.Clauses.{Guard, Gives}
use Rattle.plan_stage.specs.Partition.{copy_clauses, step_clauses}
use Rattle.plan_stage.proofs.Tested.{listed}
use Rattle.plan_stage.proofs.clauses.check_copy.Goals as goal

pub returns-in-Slots : goal.returns-in-Slots
returns-in-Slots c =
    let ring = c.args.context.now.ring.now in
    let plan = c.args.context.now.plan.now in
    let O = order c.args.context.now in
    let slot = c.args.slot in
    let same = ap (λ (source : Source). step_clauses ring plan O slot.partition c.args.number (Copy slot source)) c.in-Slots.is
    ∙ listed ring plan O c.args.number slot c.in-Slots.from
    ∙ ap (λ (from : List ℕ). copy_clauses ring plan O c.args.number slot from) (sym c.as_slice.ensures) in
    subst (λ (cs : List Guard). Gives c.check_listed.result cs) (sym same) c.check_listed.ensures
