use Rattle.std.proofs.Common.{length}
use Rattle.plan_goal.proofs.sized.+put_sizes.Given as goal

abbrev pub decreases-put_sizes : goal.decreases-put_sizes
decreases-put_sizes l = length l.entries.now
