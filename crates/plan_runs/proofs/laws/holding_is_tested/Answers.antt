use Rattle.plan_runs.proofs.Succeeding.{held_is, is_held_from}
use Rattle.plan_runs.proofs.laws.holding_is_tested.Goals as goal

pub returns : goal.returns
returns c = λ ring plan w v slot. (held_is ring plan w v slot, is_held_from ring plan w v slot)
