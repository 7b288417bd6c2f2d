use Rattle.std.proofs.Common.{rules}
use Rattle.plan_stage.proofs.clauses.settles.Goals as goal

pub returns-then-ordered : goal.returns-then-ordered
returns-then-ordered c = search rules
