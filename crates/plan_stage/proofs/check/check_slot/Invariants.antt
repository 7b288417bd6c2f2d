use Rattle.std.proofs.Common.{◌≡◌, None}
use Rattle.plan_stage.specs.Stage.{stage}
use Rattle.plan_order.specs.Order.{order}
use Rattle.plan_stage.specs.Clauses.{first_failing, below}
use Rattle.plan_stage.specs.Partition.{slot_step_clauses}
use Rattle.plan_stage.specs.Looking.Walk.{stage_of}
use Rattle.plan_stage.proofs.check.check_slot.Given as goal

abbrev pub invariant-loop-k : goal.invariant-loop-k
invariant-loop-k l = record {
  staged : stage_of l.walk ≡ stage l.context.ring.now l.context.plan.now l.fn.slot l.k;
  met : first_failing (below (slot_step_clauses l.context.ring.now l.context.plan.now (order l.context) l.fn.slot) l.k) ≡ None;
}
