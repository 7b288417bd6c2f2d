use Rattle.std.proofs.Common.{◌≡◌, true, length}
use Rattle.std.specs.Prelude.{nat_lt}
use Rattle.std.specs.List.{list_all}
use Rattle.plan_order.specs.Order.{order}
use Rattle.plan_stage.specs.Clauses.{first_failing}
use Rattle.plan_stage.specs.Partition.{step_clauses}
use Rattle.plan_stage.specs.Looking.Looked.{clauses_of}
use Rattle.plan_stage.proofs.check.check_numbers.Given as goal

-- no step in front of the rest is refused
pub record Rest (l : goal.Live-numbers) : Type 0 where
  pub within : list_all (λ n. nat_lt n (length l.context.plan.now)) l.rest ≡ true
  pub clauses : first_failing (clauses_of (step_clauses l.context.ring.now l.context.plan.now (order l.context) l.partition) l.context.plan.now l.rest) ≡ first_failing (clauses_of (step_clauses l.context.ring.now l.context.plan.now (order l.context) l.partition) l.context.plan.now l.numbers)

abbrev pub invariant-numbers : goal.invariant-numbers
invariant-numbers l = Rest l

abbrev pub decreases-numbers : goal.decreases-numbers
decreases-numbers l = length l.rest
