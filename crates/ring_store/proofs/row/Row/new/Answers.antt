use Rattle.std.proofs.Common.{sym, subst}
use Rattle.std.specs.List.Sorted.{IsStrictlySortedBy}
use Rattle.ring_store.specs.Seats.{AreInOrder}
use Rattle.ring_store.proofs.row.Row.new.Goals as goal

pub invariant_of-result : goal.invariant_of-result
unfolding IsStrictlySortedBy
invariant_of-result c = record { order = subst AreInOrder (sym c.new.ensures.items) tt }
