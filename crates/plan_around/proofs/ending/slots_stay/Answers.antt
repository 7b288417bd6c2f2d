use Rattle.std.proofs.Common.{◌≡◌, ℕ, Some, below_more, arith}
use Rattle.std.specs.Prelude.{slice_get}
use Rattle.std.proofs.lemmas.Option.{slice_get_within}
use Rattle.ring_names.specs.declared.ids.Slot.{Slot}
use Rattle.plan_around.specs.Ending.{SlotStays}
use Rattle.plan_around.proofs.ending.slots_stay.Goals as goal

pub loop-place-preserved : goal.loop-place-preserved
loop-place-preserved c =
    let it = c.args.it.now in
    below_more (λ (i : ℕ). (s : Slot) → slice_get it.left.now i ≡ Some s → SlotStays it s) c.loop-place.place c.loop-place.invariant (c.stays_at.ensures c.if-not-stays_at.false)

pub returns : goal.returns
returns c = λ t i s e. c.loop-place.invariant i (let l = slice_get_within c.args.it.now.left.now i s e in let b = c.loop-place-test.false in omega arith) s e
