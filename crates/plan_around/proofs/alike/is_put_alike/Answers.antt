use Rattle.std.proofs.Common.{ℕ, ◌<◌, ◌∙◌, below_more, ap, sym, subst, arith}
use Rattle.ring_table.specs.Value.{RingValue}
use Rattle.plan_around.specs.Alike.{InBoth, MirroredAlike}
use Rattle.plan_around.proofs.alike.is_put_alike.Goals as goal

pub is_mirrored_alike-requires-clause-index : goal.is_mirrored_alike-requires-clause-index
is_mirrored_alike-requires-clause-index c =
    let slots = c.n-slots.ensures.value ∙ sym (ap (λ (r : RingValue). r.n) c.requires.ring) in
    subst (λ (k : ℕ). c.loop-index.index < k) slots c.loop-index-test.true

pub loop-index-preserved : goal.loop-index-preserved
loop-index-preserved c = below_more (λ (i : ℕ). InBoth c.args.it.now.a.now c.args.it.now.b.now (λ r old w s new u. MirroredAlike r old w s new u c.args.put i)) c.loop-index.index c.loop-index.invariant
    (c.is_mirrored_alike.ensures c.if-not-is_mirrored_alike.false)

pub returns : goal.returns
returns c = λ t w u m n i l. (
  c.is_held_alike.ensures c.if-not-is_held_alike.false w u m n i l,
  c.loop-index.invariant i (
      let slots = c.n-slots.ensures.value ∙ sym (ap (λ (r : RingValue). r.n) c.requires.ring) in
      let far = c.loop-index-test.false in
      omega arith
      ) w u m n,
)
