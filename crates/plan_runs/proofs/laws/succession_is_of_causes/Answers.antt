use Rattle.plan_runs.proofs.Keyed.{agree, see_earlier}
use Rattle.plan_runs.proofs.laws.succession_is_of_causes.Goals as goal

pub returns-clause-earlier : goal.returns-clause-earlier
returns-clause-earlier c = see_earlier

pub returns-clause-agree : goal.returns-clause-agree
returns-clause-agree c = agree
