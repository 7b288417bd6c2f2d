use Rattle.std.proofs.Common.{ℕ, ◌<◌, below_more, subst, arith}
use Rattle.ring_table.specs.Value.{RingValue}
use Rattle.plan_runs.specs.World.{slot_at}
use Rattle.ring_core.specs.World.{ring_of}
use Rattle.ring_core.proofs.SlotOwners.{in_ring}
use Rattle.plan_around.specs.Alike.{InBoth, NodesAlike}
use Rattle.plan_around.proofs.alike.is_row_alike.Goals as goal

pub is_slot_alike-requires-clause-old : goal.is_slot_alike-requires-clause-old
is_slot_alike-requires-clause-old c =
    let less : c.loop-index.index < (ring_of c.args.b.now).n = (let s = c.requires.slots in let l = c.loop-index-test.true in omega arith) in
    in_ring (ring_of c.args.a.now) c.args.partition c.loop-index.index (subst (λ (r : RingValue). c.args.partition < r.q) c.requires.same c.requires.partition)
    (subst (λ (r : RingValue). c.loop-index.index < r.n) c.requires.same less)

pub is_slot_alike-requires-clause-new : goal.is_slot_alike-requires-clause-new
is_slot_alike-requires-clause-new c =
    in_ring (ring_of c.args.b.now) c.args.partition c.loop-index.index c.requires.partition (let s = c.requires.slots in let l = c.loop-index-test.true in omega arith)

pub loop-index-preserved : goal.loop-index-preserved
loop-index-preserved c =
    let returns = c.args.returns.now in
    below_more (λ (i : ℕ). InBoth c.args.a.now c.args.b.now (λ r old w s new u. NodesAlike returns.back returns.left.now r old w s new u (slot_at c.args.partition i))) c.loop-index.index
    c.loop-index.invariant
    (c.is_slot_alike.ensures c.if-not-is_slot_alike.false)

pub returns : goal.returns
returns c = λ t i l. c.loop-index.invariant i (omega (arith, c.loop-index-test.false))
