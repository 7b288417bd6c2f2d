use Rattle.std.proofs.Common.{length}
use Rattle.std.specs.Prelude.{None}
use Rattle.plan_runs.specs.World.{slot_at}
use Rattle.store_parts.specs.Parts.{ring_of}
use Rattle.store_events.specs.ChunkKeepers.{keeps_part}
use Rattle.store_events.proofs.LeastKeeperDown.{Lessening}
use Rattle.store_events.proofs.chunk_keepers.with_slots.Given as goal

abbrev pub invariant-slots : goal.invariant-slots
invariant-slots l = Lessening l.parts (λ w i. keeps_part (ring_of l.parts) w (slot_at l.partition i) l.chunk) l.from None l.least l.rest

abbrev pub decreases-slots : goal.decreases-slots
decreases-slots l = length l.rest
