use Rattle.std.proofs.Common.{◌∙◌, sym}
use Rattle.ring_names.specs.Lists.{has}
use Rattle.plan_text.specs.Changes.{numbers}
use Rattle.plan_goal.proofs.Members.{flags-none, flags-more}
use Rattle.plan_goal.proofs.sized.leavers_of.Goals as goal

pub nodes-init : goal.nodes-init
nodes-init c = c.new-leavers.ensures.items ∙ sym (flags-none (λ x. has x (numbers c.args.leaves.now)))

pub nodes-preserved : goal.nodes-preserved
nodes-preserved c = flags-more (λ x. has x (numbers c.args.leaves.now)) c.nodes.node c.nodes.leavers.items _ c.is_among.result
    c.in_ok-push.ensures.items c.nodes.invariant c.is_among.ensures
