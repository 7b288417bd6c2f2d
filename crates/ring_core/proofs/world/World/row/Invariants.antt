use Rattle.std.proofs.Common.{◌≡◌}
use Rattle.plan_runs.specs.World.{slot_at}
use Rattle.store_parts.specs.Parts.{kept_of}
use Rattle.ring_core.specs.Tables.{values_below, owner_kept}
use Rattle.ring_core.proofs.world.World.row.Given as goal

abbrev pub invariant-loop-index : goal.invariant-loop-index
invariant-loop-index l = l.owners.items ≡ values_below l.index (λ i. owner_kept (kept_of l.self.parts) (slot_at l.partition i))
