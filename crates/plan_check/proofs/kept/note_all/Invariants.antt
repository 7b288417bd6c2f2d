use Rattle.std.proofs.Common.{◌≡◌, ℕ, ◌<◌, None}
use Rattle.plan_order.specs.Order.{order}
use Rattle.plan_stage.specs.Clauses.{below, first_failing}
use Rattle.plan_stage.specs.Missed.{HoldsBut}
use Rattle.plan_stage.specs.Partition.{partition_clauses}
use Rattle.plan_check.proofs.kept.note_all.Given as goal

-- the clauses of the partitions so far hold, but those that may fail; nothing is noted if no clause fails
pub record SoFar (l : goal.Live-loop-partition) : Type 0 where
  pub holds : (p : ℕ) → p < l.partition → HoldsBut l.missed l.context.ring.now l.context.plan.now (order l.context) p
  pub clean : first_failing (below (partition_clauses l.context.ring.now l.context.plan.now (order l.context)) l.context.ring.now.q) ≡ None → l.missed ≡ l.fn.missed

abbrev pub invariant-loop-partition : goal.invariant-loop-partition
invariant-loop-partition l = SoFar l
