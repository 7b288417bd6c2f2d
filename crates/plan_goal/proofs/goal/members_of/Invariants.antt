use Rattle.std.proofs.Common.{◌≡◌}
use Rattle.plan_goal.specs.Rings.{flags}
use Rattle.plan_goal.specs.GoalsReached.{is_changed_member}
use Rattle.plan_goal.proofs.goal.members_of.Given as goal

abbrev pub invariant-nodes : goal.invariant-nodes
invariant-nodes l = l.members.items ≡ flags (is_changed_member l.ring l.change) l.node
