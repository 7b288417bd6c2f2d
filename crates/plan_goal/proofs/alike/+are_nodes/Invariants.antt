use Rattle.std.proofs.Common.{length}
use Rattle.plan_goal.proofs.alike.+are_nodes.Given as goal

abbrev pub decreases-are_nodes : goal.decreases-are_nodes
decreases-are_nodes l = length l.ours.now
