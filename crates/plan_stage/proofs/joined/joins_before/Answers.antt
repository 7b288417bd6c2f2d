use Rattle.std.proofs.Common.{◌∙◌, sym, ap, ℕ, Option}
use Rattle.plan_order.specs.Order.{order}
use Rattle.plan_stage.specs.Partition.{Test}
use Rattle.plan_stage.proofs.Joining.{comes_before, joins-join_of}
use Rattle.plan_stage.proofs.joined.joins_before.Goals as goal

pub returns-in-Some : goal.returns-in-Some
returns-in-Some c =
    let O : Test = order c.args.context.now in
    c.ordered.ensures ∙ sym (joins-join_of O c.args.context.now.plan.now c.args.node.0 c.args.step c.args.context.now.suits.joins ∙ ap (λ (o : Option ℕ). comes_before O o c.args.step) (sym c.join_of.ensures.value ∙ c.in-Some.is))

pub returns-in-None : goal.returns-in-None
returns-in-None c =
    let O : Test = order c.args.context.now in
    sym (joins-join_of O c.args.context.now.plan.now c.args.node.0 c.args.step c.args.context.now.suits.joins ∙ ap (λ (o : Option ℕ). comes_before O o c.args.step) (sym c.join_of.ensures.value ∙ c.in-None.is))
