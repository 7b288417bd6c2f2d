use Rattle.std.proofs.Common.{◌≡◌, ◌∙◌, ◌||◌, Bool, List, true, subst, arith}
use Rattle.ring_names.specs.declared.ids.NodeId.{NodeId}
use Rattle.plan_text.specs.Valid.{step_suits}
use Rattle.plan_runs.specs.World.{World}
use Rattle.plan_cover.specs.Looking.Serving.{serving_at}
use Rattle.plan_cover.proofs.Served.{serving-first, step-passes, present-next}
use Rattle.plan_goal.specs.Reached.{are_spared}
use Rattle.ring_core.specs.World.{Meets}
use Rattle.plan_around.specs.Apart.{asked, is_whole}
use Rattle.plan_around.proofs.Asking.{apart-more}
use Rattle.plan_around.proofs.apart.are_apart.Goals as goal

pub loop-number-init : goal.loop-number-init
loop-number-init c = record {
  told = λ w m k l. absurd (omega arith);
  present = λ s. c.in_ok-present.ensures.ok s ∙ serving-first c.args.ring.now c.args.plan.now s;
  room = c.in_ok-present.ensures.room;
}

pub is_unasked-spares-requires : goal.is_unasked-spares-requires
is_unasked-spares-requires c = step-passes (step_suits c.args.ring.now) c.args.plan.now c.loop-number.number c.step-step.result.now c.step-step.ensures.value c.requires.steps

pub act-requires-clause-suits : goal.act-requires-clause-suits
act-requires-clause-suits c = step-passes (step_suits c.args.ring.now) c.args.plan.now c.loop-number.number c.step-step.result.now c.step-step.ensures.value c.requires.steps

pub loop-number-preserved : goal.loop-number-preserved
loop-number-preserved c =
    let ring = c.args.ring.now in
    let plan = c.args.plan.now in
    let n = c.loop-number.number in
    let t = c.step-step.result.now in
    let serve = serving_at ring c.loop-number.present in
    let over = subst (λ (b : Bool). (w : World) → Meets c.args.store.now w → (w.done n || is_whole w n || b) ≡ true) c.is_unasked-spares.ensures (c.is_apart.ensures c.if-not-is_apart.false) in
    let here = subst (λ (xs : List NodeId). (w : World) → Meets c.args.store.now w → (w.done n || is_whole w n || are_spared xs (asked serve t)) ≡ true) c.of-flagged.ensures over in
    record {
      told = apart-more ring plan c.args.dead.now (Meets c.args.store.now) n t serve c.step-step.ensures.value c.loop-number.invariant.present here c.loop-number.invariant.told;
      present = λ s. present-next ring plan s n t (serve s) (serving_at ring c.act.new.self s) c.step-step.ensures.value (c.loop-number.invariant.present s) (c.act.ensures.serving s);
      room = c.act.ensures.room;
    }
