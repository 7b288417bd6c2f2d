use Rattle.std.proofs.Common.{◌∙◌, sym}
use Rattle.plan_goal.specs.UnreadKept.{is_kept_member}
use Rattle.plan_goal.proofs.Members.{flags-none, flags-more}
use Rattle.plan_goal.proofs.unread.kept_members.Goals as goal

pub nodes-init : goal.nodes-init
nodes-init c = c.new-members.ensures.items ∙ sym (flags-none (is_kept_member c.args.ring.now c.args.wanted.now c.args.rows.now))

pub nodes-preserved : goal.nodes-preserved
nodes-preserved c = flags-more (is_kept_member c.args.ring.now c.args.wanted.now c.args.rows.now) c.nodes.node c.nodes.members.items _ c.is_kept_member.result
    c.in_ok-push.ensures.items c.nodes.invariant c.is_kept_member.ensures
