use Rattle.std.proofs.Common.{◌≡◌, ◌<◌, arith}
use Rattle.plan_stage.proofs.Gathering.{slots-more}
use Rattle.plan_stage.proofs.concerned.gather.Goals as goal

pub slots-preserved : goal.slots-preserved
slots-preserved c =
    let inv = c.slots.invariant in
    let grows = c.in_ok-add_slot.ensures.grows in
    record {
      within = grows.steps inv.within;
      slots = slots-more c.args.ring.now c.args.plan.now c.args.partition c.slots.index c.slots.numbers.items c.add_slot.new.numbers.items grows inv.slots c.in_ok-add_slot.ensures.slot;
    }

pub returns-clause-ok : goal.returns-clause-ok
returns-clause-ok c =
    let inv = c.slots.invariant in
    let end : c.slots.index ≡ c.args.ring.now.n = omega arith in
    record { within = inv.within; slots = λ i l. inv.slots i (let le : i < c.slots.index = rw end l in le) }
