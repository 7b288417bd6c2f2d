use Rattle.std.proofs.Common.{◌∙◌, sym}
use Rattle.plan_goal.specs.Rings.{member_after}
use Rattle.plan_goal.proofs.Members.{flags-none, flags-more}
use Rattle.plan_goal.proofs.rings.members_left.Goals as goal

pub nodes-init : goal.nodes-init
nodes-init c = c.new-members.ensures.items ∙ sym (flags-none (λ x. member_after c.args.ring.now c.args.plan.now (record { 0 = x })))

pub nodes-preserved : goal.nodes-preserved
nodes-preserved c = flags-more (λ x. member_after c.args.ring.now c.args.plan.now (record { 0 = x })) c.nodes.node c.nodes.members.items _ c.is_member_after.result
    c.in_ok-push.ensures.items c.nodes.invariant c.is_member_after.ensures
