use Rattle.std.proofs.Common.{length}
use Rattle.plan_goal.proofs.alike.+is_name.Given as goal

abbrev pub decreases-is_name : goal.decreases-is_name
decreases-is_name l = length l.one.now
