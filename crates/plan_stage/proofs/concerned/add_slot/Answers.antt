use Rattle.std.proofs.Common.{◌≡◌, true, nat_lt, length, ◌∷◌, rules}
use Rattle.std.proofs.lemmas.Bool.{and_parts}
use Rattle.ring_table.specs.Value.{owner_of}
use Rattle.plan_text.specs.Steps.{steps_of}
use Rattle.plan_stage.specs.Looking.Gathered.{are_steps}
use Rattle.plan_stage.proofs.Gathering.{slot-within, none-taken, owner-has, one-taken, grows-more, retirement-stays}
use Rattle.plan_stage.proofs.concerned.add_slot.Goals as goal

pub steps-init : goal.steps-init
steps-init c = record {
  within = rw c.slot_steps-rest.ensures.value (slot-within c.args.plan.now c.args.slot);
  grows = c.in_ok-add_retirement.ensures.grows;
  owner = λ x is. owner-has c.args.plan.now (owner_of c.args.ring.now c.args.slot) c.owner.result x c.add_retirement.new.numbers.items c.owner.ensures is c.in_ok-add_retirement.ensures.retirement;
  taken = none-taken c.args.plan.now (steps_of c.args.plan.now c.args.slot) c.slot_steps-rest.result.now c.add_retirement.new.numbers.items c.slot_steps-rest.ensures.value;
}

pub steps-preserved : goal.steps-preserved
steps-preserved c =
    let plan = c.args.plan.now in
    let inv = c.steps.invariant in
    let e : c.steps.rest.now ≡ c.in-Some.number.now ∷ c.in-Some.later.now = search rules in
    let w : are_steps plan (c.in-Some.number.now ∷ c.in-Some.later.now) ≡ true = rw e at inv.within in
    let grows = c.in_ok-add_step.ensures.grows in
    record {
      within = (and_parts (nat_lt c.in-Some.number.now (length plan)) (are_steps plan c.in-Some.later.now) w).1;
      grows = grows-more plan c.args.numbers.now.items c.steps.numbers.items c.add_step.new.numbers.items inv.grows grows;
      owner = λ x is. retirement-stays plan x c.steps.numbers.items c.add_step.new.numbers.items grows (inv.owner x is);
      taken = one-taken plan (steps_of plan c.args.slot) c.in-Some.later.now c.steps.numbers.items c.add_step.new.numbers.items c.in-Some.number.now (rw e at inv.taken) grows c.in_ok-add_step.ensures.step;
    }
