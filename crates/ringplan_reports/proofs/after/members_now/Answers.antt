use Rattle.std.proofs.Common.{◌∙◌, sym}
use Rattle.plan_runs.specs.World.{is_member_now}
use Rattle.plan_goal.proofs.Members.{flags-none, flags-more}
use Rattle.ring_core.specs.World.{plan_of, ring_of}
use Rattle.ringplan_reports.proofs.after.members_now.Goals as goal

pub nodes-init : goal.nodes-init
nodes-init c w m = c.new-members.ensures.items ∙ sym (flags-none (is_member_now (ring_of c.args.store.now) (plan_of c.args.store.now) w))

pub nodes-preserved : goal.nodes-preserved
nodes-preserved c w m = flags-more (is_member_now (ring_of c.args.store.now) (plan_of c.args.store.now) w) c.nodes.node c.nodes.members.items _ c.is_member.result
    c.in_ok-push.ensures.items (c.nodes.invariant w m) (c.is_member.ensures w m)
