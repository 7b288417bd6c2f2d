use Rattle.plan_check.proofs.Quorums.{meet}
use Rattle.plan_check.proofs.laws.quorums_meet.Goals as goal

pub returns : goal.returns
returns c = meet
