use Rattle.std.proofs.Common.{OnOk, OnErr, ◌≡◌, ℕ, refl}
use Rattle.store_maps.specs.Chunks.{held_of}
use Rattle.store_maps.specs.Merges.{MergesAll, at_number}
use Rattle.ring_store.proofs.Rows.{within_row}
use Rattle.ring_store.proofs.Changes.{then_changes, there_open, lent_open, both_open, only, order_changed}
use Rattle.ring_store.proofs.stores.Stores.merge.Goals as goal

pub index_mut-requires : goal.index_mut-requires
index_mut-requires c = within_row c.index_mut-maps.result.now c.args.seat c.in_ok-place.place (there_open c.args.self.now c.open.new.self c.requires (c.in_ok-place.ensures).only (c.in_ok-place.ensures).at c.index_mut-maps.ensures.value)

pub invariant_of-maps : goal.invariant_of-maps
invariant_of-maps c = record { order = order_changed (lent_open c.args.self.now c.open.new.self c.requires (c.in_ok-place.ensures).only (c.in_ok-place.ensures).at c.index_mut-maps.ensures.value c.index_mut.ensures.value) c.merge.new.self }

pub returns : goal.returns
returns c =
    let it = lent_open c.args.self.now c.open.new.self c.requires (c.in_ok-place.ensures).only (c.in_ok-place.ensures).at c.index_mut-maps.ensures.value c.index_mut.ensures.value in
    record {
      only = then_changes c.args.self.now c.open.new.self _ (c.in_ok-place.ensures).only (only it _ c.merge.new.self refl _ refl refl);
      ok = both_open c.args.self.now c.open.new.self it (c.in_ok-place.ensures).same _ c.merge.new.self refl (λ old new. OnOk c.merge.result (MergesAll old (at_number c.args.number c.args.more.now) (held_of new))) c.merge.ensures.ok;
      err = both_open c.args.self.now c.open.new.self it (c.in_ok-place.ensures).same _ c.merge.new.self refl (λ old new. OnErr c.merge.result ((n : ℕ) → held_of new n ≡ old n)) c.merge.ensures.err;
      memory = c.merge.ensures.memory;
    }
