use Rattle.std.proofs.Common.{◌≡◌, length}
use Rattle.ring_store.proofs.Changes.{AreEmpty}
use Rattle.ring_store.proofs.stores.Stores.start.Given as goal

abbrev pub invariant-rows : goal.invariant-rows
invariant-rows l = (length l.rows.items ≡ l._row) × AreEmpty l.rows.items
