use Rattle.std.proofs.Common.{◌≡◌, ◌⊎◌, ℕ, true, length, None}
use Rattle.std.specs.Prelude.{nat_lt}
use Rattle.std.specs.List.{list_all}
use Rattle.ring_names.specs.Lists.{has}
use Rattle.plan_order.specs.Order.{order}
use Rattle.plan_stage.specs.Clauses.{first_failing}
use Rattle.plan_stage.specs.Missed.{HoldBut, StaysNoted}
use Rattle.plan_stage.specs.Partition.{step_clauses}
use Rattle.plan_stage.specs.Looking.Looked.{clauses_at, clauses_of}
use Rattle.plan_stage.proofs.missed.note_numbers.Given as goal

-- the steps that are left, and what is noted of the others
pub record Rest (l : goal.Live-numbers) : Type 0 where
  pub within : list_all (λ n. nat_lt n (length l.context.plan.now)) l.rest ≡ true
  pub stays : StaysNoted l.fn.missed l.missed
  pub held : (n : ℕ) → has n l.fn.numbers ≡ true → (has n l.rest ≡ true)
      ⊎ HoldBut l.missed (clauses_at (step_clauses l.context.ring.now l.context.plan.now (order l.context) l.partition) l.context.plan.now n)
  pub clean : first_failing (clauses_of (step_clauses l.context.ring.now l.context.plan.now (order l.context) l.partition) l.context.plan.now l.numbers) ≡ None
      → (first_failing (clauses_of (step_clauses l.context.ring.now l.context.plan.now (order l.context) l.partition) l.context.plan.now l.rest) ≡ None)
      × (l.missed ≡ l.fn.missed)

abbrev pub invariant-numbers : goal.invariant-numbers
invariant-numbers l = Rest l

abbrev pub decreases-numbers : goal.decreases-numbers
decreases-numbers l = length l.rest
