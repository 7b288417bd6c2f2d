use Rattle.std.proofs.Common.{◌≡◌, ◌≤◌, map, take, length}
use Rattle.std.specs.Vec.{vec_capacity}
use Rattle.store_parts.specs.Slots.{slot_at_start}
use Rattle.store_parts.proofs.slots.SlotRow.start.Given as goal

abbrev pub invariant-loop-owner : goal.invariant-loop-owner
invariant-loop-owner l = record {
  room : length l.owners ≤ vec_capacity l.slots;
  slots : l.slots.items ≡ map slot_at_start (take l.owner-index l.owners);
}
