use Rattle.std.proofs.Common.{IfOk, ◌≡◌, ℕ, refl}
use Rattle.store_maps.specs.Chunks.{held_of}
use Rattle.store_maps.specs.Held.{held}
use Rattle.store_maps.specs.Merges.{AreFreshFor}
use Rattle.ring_store.specs.Stores.{AreReadyIn}
use Rattle.ring_store.proofs.Rows.{within_row}
use Rattle.ring_store.proofs.Changes.{then_changes, there_open, lent_open, old_open, both_open, only, order_changed}
use Rattle.ring_store.proofs.stores.Stores.prepare_all.Goals as goal

pub index_mut-requires : goal.index_mut-requires
index_mut-requires c = within_row c.index_mut-maps.result.now c.args.seat c.in_ok-place.place (there_open c.args.self.now c.open.new.self c.requires (c.in_ok-place.ensures).only (c.in_ok-place.ensures).at c.index_mut-maps.ensures.value)

pub invariant_of-maps : goal.invariant_of-maps
invariant_of-maps c = record { order = order_changed (lent_open c.args.self.now c.open.new.self c.requires (c.in_ok-place.ensures).only (c.in_ok-place.ensures).at c.index_mut-maps.ensures.value c.index_mut.ensures.value) c.prepare_all.new.self }

pub returns : goal.returns
returns c =
    let it = lent_open c.args.self.now c.open.new.self c.requires (c.in_ok-place.ensures).only (c.in_ok-place.ensures).at c.index_mut-maps.ensures.value c.index_mut.ensures.value in
    record {
      only = then_changes c.args.self.now c.open.new.self _ (c.in_ok-place.ensures).only (only it _ c.prepare_all.new.self refl _ refl refl);
      same = both_open c.args.self.now c.open.new.self it (c.in_ok-place.ensures).same _ c.prepare_all.new.self refl (λ old new. (n : ℕ) → held_of new n ≡ old n) c.prepare_all.ensures.same;
      ok = old_open c.args.self.now c.open.new.self it (c.in_ok-place.ensures).same (λ old. IfOk c.prepare_all.result (AreFreshFor old (held c.args.other.now))) c.prepare_all.ensures.ok;
      ready = both_open c.args.self.now c.open.new.self it (c.in_ok-place.ensures).same _ c.prepare_all.new.self refl (λ old new. IfOk c.prepare_all.result (AreReadyIn new)) c.prepare_all.ensures.ready;
      memory = c.prepare_all.ensures.memory;
    }
