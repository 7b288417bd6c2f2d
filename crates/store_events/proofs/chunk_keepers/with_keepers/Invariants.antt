use Rattle.std.specs.Prelude.{◌&&◌, ◌==◌}
use Rattle.store_parts.specs.Parts.{ring_of}
use Rattle.store_events.specs.ChunkKeepers.{keeps_part}
use Rattle.store_events.proofs.LeastKeeperDown.{Lessening}
use Rattle.store_events.proofs.chunk_keepers.with_keepers.Given as goal

abbrev pub invariant-keepers : goal.invariant-keepers
invariant-keepers l = Lessening l.parts (λ w y x. (x == y.0) && keeps_part (ring_of l.parts) w l.slot l.chunk y.0) l.keepers.keys l.fn.found l.least l.keeper-iterator
