use Rattle.std.proofs.Common.{◌≡◌}
use Rattle.ring_names.specs.declared.ids.Slot.{Slot}
use Rattle.plan_stage.specs.Parties.{stage_before}
use Rattle.plan_cover.specs.Looking.Serving.{HasRoom, serving_at, serving_of}
use Rattle.ring_core.specs.World.{Meets}
use Rattle.plan_around.proofs.Asking.{ApartBelow}
use Rattle.plan_around.proofs.apart.are_apart.Given as goal

abbrev pub invariant-loop-number : goal.invariant-loop-number
invariant-loop-number l = record {
  told : ApartBelow l.ring l.plan l.dead (Meets l.store) l.number;
  present : (s : Slot) → serving_at l.ring l.present s ≡ serving_of (stage_before l.ring l.plan s l.number);
  room : HasRoom l.ring l.present;
}
