use Rattle.std.proofs.Common.{below_more}
use Rattle.plan_goal.proofs.pieces.are_of_plan.Goals as goal

pub steps-preserved : goal.steps-preserved
steps-preserved c = below_more _ _ c.steps.invariant (c.is_of_plan.ensures c.if-not-is_of_plan.false)
