use Rattle.std.proofs.Common.{◌≡◌, [], ◌++◌, drop}
use Rattle.ring_names.specs.declared.ids.Slot.{Slot}
use Rattle.plan_stage.specs.Parties.{stage_before}
use Rattle.plan_cover.specs.Looking.Serving.{HasRoom, serving_at, serving_of}
use Rattle.plan_moves.specs.Lines.{lines_from, steps_text}
use Rattle.plan_moves.proofs.steps.write_steps.Given as goal

abbrev pub invariant-loop-number : goal.invariant-loop-number
invariant-loop-number l = record {
  told : l.out.items ++ lines_from l.ring l.plan l.number (drop l.number l.plan) ≡ steps_text l.ring l.plan;
  line : (l.line.before ≡ []) × (l.line.tokens ≡ []);
  present : (s : Slot) → serving_at l.ring l.present s ≡ serving_of (stage_before l.ring l.plan s l.number);
  room : HasRoom l.ring l.present;
}
