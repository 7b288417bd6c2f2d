use Rattle.std.proofs.Common.{◌≡◌, ◌<◌, ℕ}
use Rattle.plan_goal.specs.Reached.{member_after, member_wanted}
use Rattle.plan_goal.proofs.leading.has_members.Given as goal

abbrev pub invariant-nodes : goal.invariant-nodes
invariant-nodes l = (x : ℕ) → x < l.number → member_after l.aim.ring.now l.plan x ≡ member_wanted l.aim.ring.now l.aim.wanted.now l.aim.dead.now x
