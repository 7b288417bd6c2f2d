use Rattle.plan_goal.proofs.Ending.{owners_at_end}
use Rattle.plan_goal.proofs.Turns.{acks_stay, gets_see, stays_safe}
use Rattle.plan_goal.proofs.laws.plans_in_turn_keep_promises.Goals as goal

pub returns-clause-safe : goal.returns-clause-safe
returns-clause-safe c = stays_safe

pub returns-clause-fresh : goal.returns-clause-fresh
returns-clause-fresh c = gets_see

pub returns-clause-acked : goal.returns-clause-acked
returns-clause-acked c = acks_stay

pub returns-clause-ends : goal.returns-clause-ends
returns-clause-ends c = owners_at_end
