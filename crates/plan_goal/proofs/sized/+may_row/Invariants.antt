use Rattle.std.proofs.Common.{length}
use Rattle.plan_goal.proofs.sized.+may_row.Given as goal

abbrev pub decreases-may_row : goal.decreases-may_row
decreases-may_row l = length l.before.now
