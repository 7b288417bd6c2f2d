use Rattle.std.proofs.Common.{◌≡◌, ◌≤◌, map, take, length}
use Rattle.std.specs.Vec.{vec_capacity}
use Rattle.store_parts.specs.Slots.{slot_at_start}
use Rattle.store_parts.proofs.slots.Slots.start.Given as goal

abbrev pub invariant-loop-owners : goal.invariant-loop-owners
invariant-loop-owners l = record {
  room : length l.owners-items ≤ vec_capacity l.rows;
  rows : l.rows.items ≡ map (λ owners. map slot_at_start owners) (take l.owners-index l.owners-items);
}
