use Rattle.std.proofs.Common.{◌∙◌}
use Rattle.plan_text.specs.Valid.{step_suits}
use Rattle.plan_cover.specs.Looking.Numbers.{copies_kept}
use Rattle.plan_cover.specs.Looking.Places.{place_at}
use Rattle.plan_cover.specs.Looking.Serving.{serving_at}
use Rattle.plan_cover.proofs.Served.{serving-first, step-passes, copies-next, present-next}
use Rattle.plan_cover.proofs.cover.all_copies.Goals as goal

pub loop-n-init : goal.loop-n-init
loop-n-init c = record {
  copies = λ y. c.new-copies.ensures (place_at y.node.0 y.side);
  present = λ s. c.in_ok-present.ensures.ok s ∙ serving-first c.args.ring.now c.args.plan.now s;
  room = c.in_ok-present.ensures.room;
}

pub add_parties-requires : goal.add_parties-requires
add_parties-requires c = step-passes (step_suits c.args.ring.now) c.args.plan.now c.loop-n.n c.step-step.result.now c.step-step.ensures.value c.requires.steps

pub act-requires-clause-suits : goal.act-requires-clause-suits
act-requires-clause-suits c = step-passes (step_suits c.args.ring.now) c.args.plan.now c.loop-n.n c.step-step.result.now c.step-step.ensures.value c.requires.steps

pub loop-n-preserved : goal.loop-n-preserved
loop-n-preserved c =
    let ring = c.args.ring.now in
    let plan = c.args.plan.now in
    let t = c.step-step.result.now in
    record {
      copies = λ y. copies-next ring plan c.loop-n.n (serving_at ring c.loop-n.present) y t (copies_kept c.loop-n.copies y) (copies_kept c.add_parties.new.copies y) c.step-step.ensures.value c.loop-n.invariant.present (c.loop-n.invariant.copies y) (c.in_ok-add_parties.ensures.ok y);
      present = λ s. present-next ring plan s c.loop-n.n t (serving_at ring c.loop-n.present s) (serving_at ring c.act.new.self s) c.step-step.ensures.value (c.loop-n.invariant.present s) (c.act.ensures.serving s);
      room = c.act.ensures.room;
    }
