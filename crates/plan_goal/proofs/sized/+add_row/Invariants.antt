use Rattle.std.proofs.Common.{length}
use Rattle.plan_goal.proofs.sized.+add_row.Given as goal

abbrev pub decreases-add_row : goal.decreases-add_row
decreases-add_row l = length l.row.now
