use Rattle.std.proofs.Common.{length}
use Rattle.plan_goal.proofs.goal.+add_dead.Given as goal

abbrev pub decreases-add_dead : goal.decreases-add_dead
decreases-add_dead l = length l.dead.now
