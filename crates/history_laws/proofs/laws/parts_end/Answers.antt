use Rattle.history_laws.proofs.Runs.{parts_end}
use Rattle.history_laws.proofs.laws.parts_end.Goals as goal

pub returns : goal.returns
returns c = parts_end
