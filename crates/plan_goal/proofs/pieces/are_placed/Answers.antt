use Rattle.std.proofs.Common.{below_more, arith}
use Rattle.plan_goal.proofs.pieces.are_placed.Goals as goal

pub steps-preserved : goal.steps-preserved
steps-preserved c = below_more _ _ c.steps.invariant (c.in_ok-is_placed.ensures c.if-not-branch.false, c.is_alone.ensures c.if-not-is_alone.false)

pub returns : goal.returns
returns c = λ t n l. c.steps.invariant n (omega (arith, c.steps-test.false))
