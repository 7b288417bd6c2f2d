use Rattle.std.proofs.Common.{◌∙◌, sym}
use Rattle.plan_goal.specs.GoalsReached.{is_changed_member}
use Rattle.plan_goal.proofs.Members.{flags-none, flags-more}
use Rattle.plan_goal.proofs.goal.members_of.Goals as goal

pub nodes-init : goal.nodes-init
nodes-init c = c.new-members.ensures.items ∙ sym (flags-none (is_changed_member c.args.ring.now c.args.change.now))

pub nodes-preserved : goal.nodes-preserved
nodes-preserved c = flags-more (is_changed_member c.args.ring.now c.args.change.now) c.nodes.node c.nodes.members.items _ c.is_member_of.result
    c.in_ok-push.ensures.items c.nodes.invariant c.is_member_of.ensures
