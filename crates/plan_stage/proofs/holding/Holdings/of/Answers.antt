use Rattle.plan_stage.proofs.Several.{holds_more}
use Rattle.plan_stage.proofs.holding.Holdings.of.Goals as goal

pub loop-index-preserved : goal.loop-index-preserved
loop-index-preserved c =
    rw c.in_ok-push.ensures.items (
    holds_more c.args.ring.now c.args.plan.now c.args.partition c.loop-index.index c.loop-index.slots.items c.in_ok-slot_holdings.field-0 c.loop-index.invariant c.in_ok-slot_holdings.ensures.ok)
