use Rattle.std.proofs.Common.{◌≡◌, true}
use Rattle.plan_order.specs.Order.{order}
use Rattle.plan_stage.specs.Each.{each_below, slot_in}
use Rattle.plan_stage.specs.Partition.{has_dropped_slot}
use Rattle.plan_stage.proofs.clauses.has_dropped.Given as goal

abbrev pub invariant-loop-index : goal.invariant-loop-index
invariant-loop-index l = each_below l.index (λ j. has_dropped_slot l.context.ring.now l.context.plan.now (order l.context) l.number (slot_in l.partition j) l.fn.node) ≡ true
