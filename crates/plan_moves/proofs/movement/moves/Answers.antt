use Rattle.std.proofs.Common.{◌≤◌, ◌∙◌, List, ◌++◌, length, ap, arith}
use Rattle.plan_text.specs.Valid.{step_suits}
use Rattle.plan_cover.specs.Looking.Serving.{serving_at}
use Rattle.plan_cover.proofs.Served.{serving-first, step-passes, present-next}
use Rattle.plan_moves.specs.declared.movement.Move.{Move}
use Rattle.plan_moves.specs.Moves.{moves_from}
use Rattle.plan_moves.proofs.Moving.{moves-next, moves-end}
use Rattle.plan_moves.proofs.movement.moves.Goals as goal

pub loop-number-init : goal.loop-number-init
loop-number-init c = record {
  told = ap (λ (xs : List Move). xs ++ moves_from c.args.ring.now c.args.plan.now 0 c.args.plan.now) c.new-found.ensures.items;
  present = λ s. c.in_ok-present.ensures.ok s ∙ serving-first c.args.ring.now c.args.plan.now s;
  room = c.in_ok-present.ensures.room;
}

pub push_move-requires : goal.push_move-requires
push_move-requires c = step-passes (step_suits c.args.ring.now) c.args.plan.now c.loop-number.number c.step-step.result.now c.step-step.ensures.value c.requires.steps

pub act-requires-clause-suits : goal.act-requires-clause-suits
act-requires-clause-suits c = step-passes (step_suits c.args.ring.now) c.args.plan.now c.loop-number.number c.step-step.result.now c.step-step.ensures.value c.requires.steps

pub loop-number-preserved : goal.loop-number-preserved
loop-number-preserved c =
    let ring = c.args.ring.now in
    let plan = c.args.plan.now in
    let n = c.loop-number.number in
    let t = c.step-step.result.now in
    let serve = serving_at ring c.loop-number.present in
    record {
      told = moves-next ring plan n t c.loop-number.found.items c.push_move.new.out.items serve c.step-step.ensures.value c.loop-number.invariant.present c.loop-number.invariant.told c.in_ok-push_move.ensures.ok;
      present = λ s. present-next ring plan s n t (serve s) (serving_at ring c.act.new.self s) c.step-step.ensures.value (c.loop-number.invariant.present s) (c.act.ensures.serving s);
      room = c.act.ensures.room;
    }

pub returns-clause-ok : goal.returns-clause-ok
returns-clause-ok c =
    let far : length c.args.plan.now ≤ c.loop-number.number = omega arith in
    moves-end c.args.ring.now c.args.plan.now c.loop-number.number c.loop-number.found.items far c.loop-number.invariant.told
