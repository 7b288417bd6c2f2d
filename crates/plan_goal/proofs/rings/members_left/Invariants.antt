use Rattle.std.proofs.Common.{◌≡◌}
use Rattle.plan_goal.specs.Rings.{members_after}
use Rattle.plan_goal.proofs.rings.members_left.Given as goal

abbrev pub invariant-nodes : goal.invariant-nodes
invariant-nodes l = l.members.items ≡ members_after l.ring l.plan l.node
