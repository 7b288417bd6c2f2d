use Rattle.std.proofs.Common.{◌∙◌, sym}
use Rattle.plan_goal.specs.Sized.{takes}
use Rattle.plan_goal.proofs.Members.{flags-none, flags-more}
use Rattle.plan_goal.proofs.sized.Shares.flags.Goals as goal

pub nodes-init : goal.nodes-init
nodes-init c = c.new-takers.ensures.items ∙ sym (flags-none (takes c.args.self.joins.now c.args.self.loads.now c.args.self.stored c.args.self.weights.now c.args.self.all))

pub nodes-preserved : goal.nodes-preserved
nodes-preserved c = flags-more (takes c.args.self.joins.now c.args.self.loads.now c.args.self.stored c.args.self.weights.now c.args.self.all) c.nodes.node c.nodes.takers.items _ c.in_ok-is_taker.is_taker
    c.in_ok-push.ensures.items c.nodes.invariant c.in_ok-is_taker.ensures
