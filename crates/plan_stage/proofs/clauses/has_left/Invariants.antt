use Rattle.std.proofs.Common.{◌≡◌, true}
use Rattle.std.specs.Prelude.{◌||◌, ◌==◌}
use Rattle.plan_order.specs.Order.{order}
use Rattle.plan_stage.specs.Each.{each_below, sibling}
use Rattle.plan_stage.specs.Partition.{has_left_slot}
use Rattle.plan_stage.proofs.clauses.has_left.Given as goal

abbrev pub invariant-loop-index : goal.invariant-loop-index
invariant-loop-index l = each_below l.index (λ j. (j == l.fn.slot.index) || has_left_slot l.context.ring.now l.context.plan.now (order l.context) l.number (sibling l.fn.slot j) l.fn.node) ≡ true
