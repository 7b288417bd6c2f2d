use Rattle.std.proofs.Common.{map, take}
use Rattle.plan_goal.specs.GoalsReached.{AreNamed}
use Rattle.plan_goal.proofs.goal.nodes_of.Given as goal

abbrev pub invariant-loop-name : goal.invariant-loop-name
invariant-loop-name l = AreNamed l.ring (map (λ name. name.items) (take l.name-index l.names)) l.nodes.items
