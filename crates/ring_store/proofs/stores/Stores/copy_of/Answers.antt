use Rattle.std.proofs.Common.{IfOk, ◌≡◌, ◌∙◌, ℕ, refl, sym, ap}
use Rattle.store_maps.specs.Chunks.{held_of}
use Rattle.store_maps.specs.Held.{held}
use Rattle.ring_store.proofs.Rows.{within_row}
use Rattle.ring_store.proofs.Changes.{lent, no_map, only, at_old, at_both, order_changed}
use Rattle.ring_store.proofs.stores.Stores.copy_of.Goals as goal

pub index_mut-requires : goal.index_mut-requires
index_mut-requires c = within_row c.index_mut-maps.result.now c.args.seat c.in-Ok.place (c.in-Ok.ensures).found

pub invariant_of-maps : goal.invariant_of-maps
invariant_of-maps c = record { order = order_changed (lent c.args.self.now c.requires c.index_mut-maps.ensures.value (c.in-Ok.ensures).found c.index_mut.ensures.value) c.shared_copy.new.map }

pub returns-in-Ok : goal.returns-in-Ok
returns-in-Ok c =
    let it = lent c.args.self.now c.requires c.index_mut-maps.ensures.value (c.in-Ok.ensures).found c.index_mut.ensures.value in
    record {
      only = only it _ c.shared_copy.new.map refl _ refl refl;
      same = at_both it _ c.shared_copy.new.map refl (λ old new. (n : ℕ) → held_of new n ≡ held_of old n) c.shared_copy.ensures.same;
      ok = at_old it (λ old. IfOk c.shared_copy.result (λ m. (n : ℕ) → held m n ≡ held_of old n)) c.shared_copy.ensures.ok;
      memory = c.shared_copy.ensures.memory;
    }

pub returns-in-Err-clause-ok : goal.returns-in-Err-clause-ok
returns-in-Err-clause-ok c n = c.new.ensures.versions n ∙ sym (ap (λ o. held_of o n) (no_map c.args.self.now c.args.row c.requires c.args.seat c.index_mut-maps.ensures.value c.in-Err.field-0 (c.in-Err.ensures).missing))
