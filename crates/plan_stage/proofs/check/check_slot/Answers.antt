use Rattle.std.proofs.Common.{◌≡◌, ℕ, ◌<◌, ◌∙◌, sym, ap, subst, length, arith, None, List}
use Rattle.std.proofs.lemmas.Result.{err_from_is_err_and}
use Rattle.plan_text.specs.Steps.{steps_of}
use Rattle.plan_order.specs.Order.{order}
use Rattle.plan_stage.specs.Clauses.{first_failing, below}
use Rattle.plan_stage.specs.Partition.{slot_step_clauses}
use Rattle.plan_stage.specs.Looking.Walk.{stage_of}
use Rattle.plan_stage.proofs.Below.{below-none, below-then, below-at}
use Rattle.plan_stage.proofs.Stages.{met-step, stage-next}
use Rattle.plan_stage.proofs.check.check_slot.Goals as goal

pub loop-k-init : goal.loop-k-init
loop-k-init c = record {
  staged = c.new-walk.ensures;
  met = below-none (slot_step_clauses c.args.context.now.ring.now c.args.context.now.plan.now (order c.args.context.now) c.args.slot);
}

pub returns-in_err-check_place : goal.returns-in_err-check_place
returns-in_err-check_place c =
    let ring = c.args.context.now.ring.now in
    let plan = c.args.context.now.plan.now in
    let numbers = c.slot_steps-numbers.ensures.value in
    let inv = c.loop-k.invariant in
    let l : c.loop-k.k < length (steps_of plan c.args.slot) = (rw numbers at c.loop-k-test.true) in
    let p = err_from_is_err_and c.from_residual.result c.from_residual.ensures.1 in
    rw (p.1, p.2) (λ ne. below-at (slot_step_clauses ring plan (order c.args.context.now) c.args.slot) c.in_err-check_place.field-0.0 c.loop-k.k (length (steps_of plan c.args.slot)) inv.met l (sym (met-step ring plan (order c.args.context.now) c.args.slot c.loop-k.k (stage_of c.loop-k.walk) c.slot_steps-numbers.result.now inv.staged numbers) ∙ c.in_err-check_place.ensures ne))

pub loop-k-preserved : goal.loop-k-preserved
loop-k-preserved c =
    let ring = c.args.context.now.ring.now in
    let plan = c.args.context.now.plan.now in
    let numbers = c.slot_steps-numbers.ensures.value in
    let inv = c.loop-k.invariant in
    let l : c.loop-k.k < length (steps_of plan c.args.slot) = (rw numbers at c.loop-k-test.true) in
    record {
      staged = stage-next ring plan c.args.slot c.loop-k.k (stage_of c.loop-k.walk) (stage_of c.act.new.self) c.step.result.now l inv.staged (rw numbers at c.step.ensures.value) c.in_ok-act.ensures.ok;
      met = below-then (slot_step_clauses ring plan (order c.args.context.now) c.args.slot) c.loop-k.k inv.met ∙ sym (met-step ring plan (order c.args.context.now) c.args.slot c.loop-k.k (stage_of c.loop-k.walk) c.slot_steps-numbers.result.now inv.staged numbers) ∙ c.in_ok-check_place.ensures;
    }

pub returns : goal.returns
returns c =
    let plan = c.args.context.now.plan.now in
    let clauses = slot_step_clauses c.args.context.now.ring.now plan (order c.args.context.now) c.args.slot in
    let end : c.loop-k.k ≡ length c.slot_steps-numbers.result.now = omega arith in
    subst (λ (n : ℕ). first_failing (below clauses n) ≡ None) (end ∙ ap (λ (ns : List ℕ). length ns) c.slot_steps-numbers.ensures.value) c.loop-k.invariant.met
