use Rattle.std.proofs.Common.{◌≡◌, true, length}
use Rattle.plan_runs.specs.Versions.{slot_has}
use Rattle.plan_runs.specs.World.{slot_at}
use Rattle.store_maps.specs.Held.{held}
use Rattle.store_parts.specs.Parts.{ring_of, plan_of}
use Rattle.store_events.specs.Sources.{are_kept}
use Rattle.store_events.proofs.ChunkSources.{TakesSome}
use Rattle.store_events.proofs.sources.add_slots.Given as goal

abbrev pub invariant-slots : goal.invariant-slots
invariant-slots l = (are_kept l.parts.slots l.partition l.rest ≡ true)
    × TakesSome l.parts l.chunk (λ w i. slot_has (ring_of l.parts) (plan_of l.parts) w (slot_at l.partition i)) l.from (held l.initial.read) (held l.read) l.rest

abbrev pub decreases-slots : goal.decreases-slots
decreases-slots l = length l.rest
