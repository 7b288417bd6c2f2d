use Rattle.std.proofs.Common.{rules}
use Rattle.plan_stage.proofs.clauses.check_listed.Goals as goal

pub returns-then-not-is_settled : goal.returns-then-not-is_settled
returns-then-not-is_settled c = search rules

pub returns : goal.returns
returns c = search rules
