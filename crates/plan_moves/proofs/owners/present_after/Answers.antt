use Rattle.std.proofs.Common.{◌≡◌, ◌∙◌, ℕ, length, subst, arith}
use Rattle.ring_names.specs.declared.ids.Slot.{Slot}
use Rattle.plan_text.specs.Valid.{step_suits}
use Rattle.plan_cover.specs.Looking.Serving.{serving_at}
use Rattle.plan_cover.proofs.Served.{serving-first, step-passes, present-next}
use Rattle.plan_moves.specs.Moves.{served_before}
use Rattle.plan_moves.proofs.owners.present_after.Goals as goal

pub loop-number-init : goal.loop-number-init
loop-number-init c = record {
  present = λ s. c.in_ok-present.ensures.ok s ∙ serving-first c.args.ring.now c.args.plan.now s;
  room = c.in_ok-present.ensures.room;
}

pub act-requires-clause-suits : goal.act-requires-clause-suits
act-requires-clause-suits c = step-passes (step_suits c.args.ring.now) c.args.plan.now c.loop-number.number c.step.result.now c.step.ensures.value c.requires.steps

pub loop-number-preserved : goal.loop-number-preserved
loop-number-preserved c =
    let ring = c.args.ring.now in
    record {
      present = λ s. present-next ring c.args.plan.now s c.loop-number.number c.step.result.now (serving_at ring c.loop-number.present s) (serving_at ring c.act.new.self s) c.step.ensures.value (c.loop-number.invariant.present s) (c.act.ensures.serving s);
      room = c.act.ensures.room;
    }

pub returns-clause-ok : goal.returns-clause-ok
returns-clause-ok c =
    let end : c.loop-number.number ≡ length c.args.plan.now = omega arith in
    subst (λ (n : ℕ). (s : Slot) → serving_at c.args.ring.now c.loop-number.present s ≡ served_before c.args.ring.now c.args.plan.now n s) end c.loop-number.invariant.present
