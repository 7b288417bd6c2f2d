use Rattle.plan_runs.proofs.Split.{split}
use Rattle.plan_runs.proofs.laws.runs_split.Goals as goal

pub returns : goal.returns
returns c = split
