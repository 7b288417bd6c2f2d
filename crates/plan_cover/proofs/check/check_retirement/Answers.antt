use Rattle.std.proofs.Common.{rules}
use Rattle.plan_cover.proofs.check.check_retirement.Goals as goal

pub returns-then-not-has_joined_by : goal.returns-then-not-has_joined_by
returns-then-not-has_joined_by c = search rules
