use Rattle.plan_runs.proofs.Reached.{reached}
use Rattle.plan_runs.proofs.laws.runs_reach.Goals as goal

pub returns : goal.returns
returns c = reached
