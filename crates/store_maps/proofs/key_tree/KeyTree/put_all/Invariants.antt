use Rattle.store_maps.specs.Entries.{left_of}
use Rattle.store_maps.proofs.EntriesLeft.{Putting}
use Rattle.store_maps.proofs.key_tree.KeyTree.put_all.Given as goal

abbrev pub invariant-keys : goal.invariant-keys
invariant-keys l = Putting l.other l.initial.self l.self (left_of l.key-iterator)
