use Rattle.std.proofs.Common.{◌≡◌}
use Rattle.ring_names.specs.declared.ids.Slot.{Slot}
use Rattle.plan_stage.specs.Parties.{stage_before}
use Rattle.plan_cover.specs.Looking.Serving.{HasRoom, serving_at, serving_of}
use Rattle.plan_moves.proofs.owners.present_after.Given as goal

abbrev pub invariant-loop-number : goal.invariant-loop-number
invariant-loop-number l = record {
  present : (s : Slot) → serving_at l.ring l.present s ≡ serving_of (stage_before l.ring l.plan s l.number);
  room : HasRoom l.ring l.present;
}
