use Rattle.store_maps.specs.Entries.{entries_of, left_of}
use Rattle.store_maps.specs.Holders.{holds}
use Rattle.store_maps.proofs.HoldersChanged.{Forgetting}
use Rattle.store_maps.proofs.holders.Holders.forget_keys.Given as goal

abbrev pub invariant-keys : goal.invariant-keys
invariant-keys l = Forgetting l.node.0 l.chunk (holds l.initial.self) (holds l.self) (entries_of l.map.entries) (left_of l.number-iterator)
