use Rattle.std.proofs.Common.{◌≤◌, ◌∙◌, ℕ, List, ◌++◌, length, ap, arith}
use Rattle.ring_table.specs.Value.{names_of}
use Rattle.plan_text.specs.Valid.{step_suits}
use Rattle.plan_cover.specs.Looking.Serving.{serving_at}
use Rattle.plan_cover.proofs.Served.{serving-first, step-passes, present-next}
use Rattle.plan_moves.specs.Lines.{step_data, lines_from}
use Rattle.plan_moves.proofs.Goings.{line-text}
use Rattle.plan_moves.proofs.Listing.{lines-next, lines-end}
use Rattle.plan_moves.proofs.steps.write_steps.Goals as goal

pub loop-number-init : goal.loop-number-init
loop-number-init c = record {
  told = ap (λ (xs : List ℕ). xs ++ lines_from c.args.ring.now c.args.plan.now 0 c.args.plan.now) c.new-out.ensures.items;
  line = (c.new-line.ensures.before ∙ c.new.ensures.items, c.new-line.ensures.tokens);
  present = λ s. c.in_ok-present.ensures.ok s ∙ serving-first c.args.ring.now c.args.plan.now s;
  room = c.in_ok-present.ensures.room;
}

pub write_step-requires : goal.write_step-requires
write_step-requires c = step-passes (step_suits c.args.ring.now) c.args.plan.now c.loop-number.number c.step-step.result.now c.step-step.ensures.value c.requires.steps

pub act-requires-clause-suits : goal.act-requires-clause-suits
act-requires-clause-suits c = step-passes (step_suits c.args.ring.now) c.args.plan.now c.loop-number.number c.step-step.result.now c.step-step.ensures.value c.requires.steps

pub loop-number-preserved : goal.loop-number-preserved
loop-number-preserved c =
    let ring = c.args.ring.now in
    let plan = c.args.plan.now in
    let n = c.loop-number.number in
    let t = c.step-step.result.now in
    let serve = serving_at ring c.loop-number.present in
    record {
      told = lines-next ring plan n t c.deps.result.now c.loop-number.out.items c.push_line.new.out.items serve c.step-step.ensures.value c.deps.ensures.value c.loop-number.invariant.present c.loop-number.invariant.told
          (line-text (step_data (names_of ring) serve n t c.deps.result.now) c.loop-number.line c.write_step.new.line c.loop-number.out.items c.push_line.new.out.items c.loop-number.invariant.line c.in_ok-write_step.ensures.ok c.in_ok-line.ensures.out);
      line = c.in_ok-line.ensures.line;
      present = λ s. present-next ring plan s n t (serve s) (serving_at ring c.act.new.self s) c.step-step.ensures.value (c.loop-number.invariant.present s) (c.act.ensures.serving s);
      room = c.act.ensures.room;
    }

pub returns-clause-text : goal.returns-clause-text
returns-clause-text c =
    let far : length c.args.plan.now ≤ c.loop-number.number = omega arith in
    lines-end c.args.ring.now c.args.plan.now c.loop-number.number c.loop-number.out.items far c.loop-number.invariant.told
