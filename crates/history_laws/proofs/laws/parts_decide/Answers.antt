use Rattle.history_laws.proofs.Runs.{parts_run}
use Rattle.history_laws.proofs.Whole.{whole_run}
use Rattle.history_laws.proofs.laws.parts_decide.Goals as goal

pub returns-clause-parts : goal.returns-clause-parts
returns-clause-parts c ring plan entries is_in r = parts_run ring plan entries r.0 is_in r.1

pub returns-clause-whole : goal.returns-clause-whole
returns-clause-whole c = whole_run
