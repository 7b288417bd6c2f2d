use Rattle.std.proofs.Common.{◌≡◌, ◌+◌, ◌*◌, ◌<◌, ℕ, None}
use Rattle.ring_store.specs.Stores.{shared_space, map_on}
use Rattle.ring_store.specs.declared.seat.Seat.{Seat}
use Rattle.ring_store.proofs.stores.Stores.drop_slot.Given as goal

abbrev pub invariant-chunks : goal.invariant-chunks
invariant-chunks l = record {
  space : shared_space l.self ≡ shared_space l.fn.self;
  gone : (d : ℕ) → d < l.chunk → map_on l.self (16 * l.slot.partition + d) l.seat ≡ None;
  others : (i : ℕ) (t : Seat) → ((d : ℕ) → d < 16 → i ≡ 16 * l.slot.partition + d → t ≡ l.seat → ⊥) → map_on l.self i t ≡ map_on l.fn.self i t;
}
