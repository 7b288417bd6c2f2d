use Rattle.store_maps.specs.Held.{held}
use Rattle.store_events.proofs.ChunkSources.{TakesSome}
use Rattle.store_events.proofs.sources.add_keepers.Given as goal

abbrev pub invariant-keepers : goal.invariant-keepers
invariant-keepers l = TakesSome l.parts l.chunk (λ w y. w.hinted y.0 l.slot) l.keepers.keys (held l.initial.read) (held l.read) l.keeper-iterator
