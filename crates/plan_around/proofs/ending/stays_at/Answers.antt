use Rattle.std.proofs.Common.{◌∙◌, subst, arith}
use Rattle.std.proofs.lemmas.Option.{get_or_from_slice_get, slice_get_within}
use Rattle.ring_names.specs.declared.ids.Slot.{Slot}
use Rattle.plan_around.specs.Ending.{SlotStays}
use Rattle.plan_around.proofs.ending.stays_at.Goals as goal

pub returns-in-Some : goal.returns-in-Some
returns-in-Some c t s e =
    let slot = c.in-Some.slot.now in
    let same = c.in-Some.ensures.lookup.1 ∙ get_or_from_slice_get c.args.it.now.left.now c.args.place s slot e in
    subst (λ (u : Slot). SlotStays c.args.it.now u) same (c.slot_stays.ensures t)

pub returns-in-None : goal.returns-in-None
returns-in-None c t s e = absurd (let l = slice_get_within c.args.it.now.left.now c.args.place s e in let b = c.in-None.ensures.lookup.3 in omega arith)
