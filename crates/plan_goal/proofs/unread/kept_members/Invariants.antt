use Rattle.std.proofs.Common.{◌≡◌}
use Rattle.plan_goal.specs.Rings.{flags}
use Rattle.plan_goal.specs.UnreadKept.{is_kept_member}
use Rattle.plan_goal.proofs.unread.kept_members.Given as goal

abbrev pub invariant-nodes : goal.invariant-nodes
invariant-nodes l = l.members.items ≡ flags (is_kept_member l.ring l.wanted l.rows) l.node
