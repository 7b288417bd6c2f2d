use Rattle.std.proofs.Common.{◌≡◌, take}
use Rattle.ring_table.specs.declared.allowance.NodeSide.{NodeSide}
use Rattle.ring_names.specs.declared.ids.Slot.{Slot}
use Rattle.plan_stage.specs.Parties.{stage_before}
use Rattle.plan_cover.specs.Looking.Numbers.{copies_kept, numbers_from, takes_part}
use Rattle.plan_cover.specs.Looking.Serving.{HasRoom, serving_at, serving_of}
use Rattle.plan_cover.proofs.cover.all_copies.Given as goal

abbrev pub invariant-loop-n : goal.invariant-loop-n
invariant-loop-n l = record {
  copies : (y : NodeSide) → copies_kept l.copies y ≡ numbers_from (takes_part l.ring l.plan y) 0 (take l.n l.plan);
  present : (s : Slot) → serving_at l.ring l.present s ≡ serving_of (stage_before l.ring l.plan s l.n);
  room : HasRoom l.ring l.present;
}
