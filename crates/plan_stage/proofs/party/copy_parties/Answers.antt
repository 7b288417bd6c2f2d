use Rattle.std.proofs.Common.{rules}
use Rattle.plan_stage.proofs.party.copy_parties.Goals as goal

pub returns-clause-ok : goal.returns-clause-ok
returns-clause-ok c = search rules
