use Rattle.std.proofs.Common.{◌≡◌, ◌≢◌, ◌<◌, ℕ, None}
use Rattle.ring_store.specs.Stores.{shared_space, map_on}
use Rattle.ring_store.specs.declared.seat.Seat.{Seat}
use Rattle.ring_store.proofs.stores.Stores.clear.Given as goal

abbrev pub invariant-rows : goal.invariant-rows
invariant-rows l = record {
  space : shared_space l.self ≡ shared_space l.fn.self;
  gone : (i : ℕ) (t : Seat) → i < l.row → t.node.0 ≡ l.node.0 → map_on l.self i t ≡ None;
  others : (i : ℕ) (t : Seat) → t.node.0 ≢ l.node.0 → map_on l.self i t ≡ map_on l.fn.self i t;
}
