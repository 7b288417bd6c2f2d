use Rattle.std.proofs.Common.{length}
use Rattle.store_maps.proofs.EntriesLeft.{Filling}
use Rattle.store_maps.proofs.entries.tree_with.Given as goal

abbrev pub invariant-entries : goal.invariant-entries
invariant-entries l = Filling l.list l.tree.entries l.rest

abbrev pub decreases-entries : goal.decreases-entries
decreases-entries l = length l.rest
