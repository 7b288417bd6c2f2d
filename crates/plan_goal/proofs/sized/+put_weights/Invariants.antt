use Rattle.std.proofs.Common.{length}
use Rattle.plan_goal.proofs.sized.+put_weights.Given as goal

abbrev pub decreases-put_weights : goal.decreases-put_weights
decreases-put_weights l = length l.entries.now
