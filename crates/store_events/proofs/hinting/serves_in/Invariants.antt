use Rattle.std.proofs.Common.{◌≡◌, false}
use Rattle.plan_runs.specs.World.{some_below, slot_at}
use Rattle.store_parts.specs.GuardsKept.{is_served_kept}
use Rattle.store_events.proofs.hinting.serves_in.Given as goal

abbrev pub invariant-indexes : goal.invariant-indexes
invariant-indexes l = some_below l.index (λ i. is_served_kept l.parts.slots (slot_at l.partition i) l.node.0) ≡ false
