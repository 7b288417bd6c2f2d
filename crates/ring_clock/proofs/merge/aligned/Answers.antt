use Rattle.std.proofs.Common.{arith}
use Rattle.ring_clock.proofs.Aligned.{greater_at, passed_at}
use Rattle.ring_clock.proofs.merge.aligned.Goals as goal

-- the first has the greater counter at a place
pub returns-then-entry-other-2-clause-greater : goal.returns-then-entry-other-2-clause-greater
returns-then-entry-other-2-clause-greater c =
    λ h. greater_at c.args.first.now c.args.second.now c.loop-place.place _ c.requires.first c.requires.second c.loop-place-test.true (omega arith) c.if-entry-other.false c.if-entry-other-2.true (c.loop-place.invariant.1 h)

pub loop-place-preserved : goal.loop-place-preserved
loop-place-preserved c =
    let law = passed_at c.args.first.now c.args.second.now c.loop-place.place _ c.requires.first c.requires.second c.loop-place-test.true (omega arith) c.if-entry-other.false c.if-entry-other-2.false in
    (λ h. c.loop-place.invariant.0 (law.0 h), λ h. law.1 (c.loop-place.invariant.1 h))
