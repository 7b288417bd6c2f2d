use Rattle.std.proofs.Common.{ℕ, ◌<◌, below_more, arith}
use Rattle.plan_around.specs.Ending.{SlotEnds}
use Rattle.plan_around.proofs.ending.slots_end.Goals as goal

pub loop-partition-preserved : goal.loop-partition-preserved
loop-partition-preserved c =
    below_more (λ (p : ℕ). (i : ℕ) → i < c.args.it.now.ring.now.n → SlotEnds c.args.it.now p i) c.loop-partition.partition c.loop-partition.invariant (c.row_ends.ensures c.if-not-row_ends.false)

pub returns : goal.returns
returns c = λ t p l. c.loop-partition.invariant p (let v = c.q-q.ensures.value in let b = c.loop-partition-test.false in omega arith)
