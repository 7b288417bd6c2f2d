use Rattle.std.proofs.Common.{ℕ, below_more, arith}
use Rattle.plan_around.specs.Ending.{SlotEnds}
use Rattle.plan_around.proofs.ending.row_ends.Goals as goal

pub loop-index-preserved : goal.loop-index-preserved
loop-index-preserved c = below_more (λ (i : ℕ). SlotEnds c.args.it.now c.args.partition i) c.loop-index.index c.loop-index.invariant (c.ends_at.ensures c.if-not-ends_at.false)

pub returns : goal.returns
returns c = λ t i l. c.loop-index.invariant i (let v = c.n-slots.ensures.value in let b = c.loop-index-test.false in omega arith)
