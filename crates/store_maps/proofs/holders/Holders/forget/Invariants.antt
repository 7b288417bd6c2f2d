use Rattle.store_maps.specs.Holders.{holds}
use Rattle.store_maps.proofs.HoldersChanged.{ForgettingChunks}
use Rattle.store_maps.proofs.holders.Holders.forget.Given as goal

abbrev pub invariant-chunks : goal.invariant-chunks
invariant-chunks l = ForgettingChunks l.node.0 (holds l.initial.self) (holds l.self) l.map l.chunk
