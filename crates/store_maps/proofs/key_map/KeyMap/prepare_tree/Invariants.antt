use Rattle.store_maps.specs.Entries.{left_of}
use Rattle.store_maps.proofs.WholeMaps.{Preparing}
use Rattle.store_maps.proofs.key_map.KeyMap.prepare_tree.Given as goal

abbrev pub invariant-keys : goal.invariant-keys
invariant-keys l = Preparing l.initial.self l.self l.other l.keys (left_of l.key-iterator)
