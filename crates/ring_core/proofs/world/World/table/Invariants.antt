use Rattle.std.proofs.Common.{◌≡◌}
use Rattle.plan_runs.specs.World.{slot_at}
use Rattle.store_parts.specs.Parts.{kept_of}
use Rattle.ring_core.specs.Tables.{values_below, owner_kept}
use Rattle.ring_core.specs.World.{ring_of}
use Rattle.ring_core.proofs.world.World.table.Given as goal

abbrev pub invariant-loop-partition : goal.invariant-loop-partition
invariant-loop-partition l = l.rows.items ≡ values_below l.partition (λ p. values_below (ring_of l.self).n (λ i. owner_kept (kept_of l.self.parts) (slot_at p i)))
