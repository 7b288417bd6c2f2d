use Rattle.std.proofs.Common.{◌≡◌, drop}
use Rattle.ring_names.specs.declared.ids.Slot.{Slot}
use Rattle.plan_stage.specs.Parties.{stage_before}
use Rattle.plan_cover.specs.Looking.Serving.{HasRoom, serving_at, serving_of}
use Rattle.plan_goal.specs.Reached.{spares_from, spares}
use Rattle.plan_goal.proofs.sparing.spares.Given as goal

abbrev pub invariant-loop-number : goal.invariant-loop-number
invariant-loop-number l = record {
  told : spares_from l.ring l.plan l.dead l.number (drop l.number l.plan) ≡ spares l.ring l.plan l.dead;
  present : (s : Slot) → serving_at l.ring l.present s ≡ serving_of (stage_before l.ring l.plan s l.number);
  room : HasRoom l.ring l.present;
}
