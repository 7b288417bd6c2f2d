use Rattle.store_maps.proofs.WholeMaps.{Settling}
use Rattle.store_maps.proofs.key_tree.KeyTree.settle_all.Given as goal

abbrev pub invariant-keys : goal.invariant-keys
invariant-keys l = Settling l.initial.self l.self l.fn.fresh l.key-iterator
