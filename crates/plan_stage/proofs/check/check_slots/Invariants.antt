use Rattle.std.proofs.Common.{◌≡◌, None}
use Rattle.plan_order.specs.Order.{order}
use Rattle.plan_stage.specs.Clauses.{first_failing, below}
use Rattle.plan_stage.specs.Partition.{slot_clauses}
use Rattle.plan_stage.proofs.check.check_slots.Given as goal

abbrev pub invariant-loop-index : goal.invariant-loop-index
invariant-loop-index l = first_failing (below (λ i. slot_clauses l.context.ring.now l.context.plan.now (order l.context) (record { partition = l.partition; index = i })) l.index) ≡ None
