use Rattle.plan_runs.proofs.Succeeding.{succeeds_is, is_succeeds}
use Rattle.plan_runs.proofs.laws.succession_is_tested.Goals as goal

pub returns : goal.returns
returns c = λ w u v. (succeeds_is w u v, is_succeeds w u v)
