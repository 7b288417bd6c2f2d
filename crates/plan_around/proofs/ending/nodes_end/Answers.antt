use Rattle.std.proofs.Common.{ℕ, ap, below_more, arith, length}
use Rattle.plan_around.specs.Ending.{NodeEnds}
use Rattle.plan_around.proofs.ending.nodes_end.Goals as goal

pub loop-node-preserved : goal.loop-node-preserved
loop-node-preserved c = below_more (λ (x : ℕ). NodeEnds c.args.it.now x) c.loop-node.node c.loop-node.invariant (c.node_ends.ensures c.if-not-node_ends.false)

pub returns : goal.returns
returns c = λ t x l. c.loop-node.invariant x (let b = c.loop-node-test.false in let v = ap length c.nodes.ensures.value in omega arith)
