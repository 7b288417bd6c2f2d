use Rattle.std.proofs.Common.{List, refl}
use Rattle.ring_versions.specs.Fresh.{IsFreshFor}
use Rattle.ring_versions.specs.declared.version.Version.{Version}
use Rattle.store_maps.specs.Chunks.{held_of}
use Rattle.store_maps.specs.Merges.{MergesAll, at_number}
use Rattle.ring_store.specs.Stores.{IsReadyIn}
use Rattle.ring_store.proofs.Rows.{within_row}
use Rattle.ring_store.proofs.Changes.{lent, no_map, only, of_old, at_both, order_changed}
use Rattle.ring_store.proofs.stores.Stores.settle.Goals as goal

pub index_mut-requires : goal.index_mut-requires
index_mut-requires c = within_row c.index_mut-maps.result.now c.args.seat c.in-Ok.place (c.in-Ok.ensures).found

pub settle-requires : goal.settle-requires
settle-requires c = of_old (lent c.args.self.now c.requires.row c.index_mut-maps.ensures.value (c.in-Ok.ensures).found c.index_mut.ensures.value) (λ o. IsReadyIn o c.args.number c.args.fresh) c.requires.ready

pub invariant_of-maps : goal.invariant_of-maps
invariant_of-maps c = record { order = order_changed (lent c.args.self.now c.requires.row c.index_mut-maps.ensures.value (c.in-Ok.ensures).found c.index_mut.ensures.value) c.settle.new.self }

pub returns-in-Ok : goal.returns-in-Ok
returns-in-Ok c =
    let it = lent c.args.self.now c.requires.row c.index_mut-maps.ensures.value (c.in-Ok.ensures).found c.index_mut.ensures.value in
    record {
      only = only it _ c.settle.new.self refl _ refl refl;
      merged = at_both it _ c.settle.new.self refl (λ old new. (more : List Version) → IsFreshFor (held_of old c.args.number) more c.args.fresh → MergesAll (held_of old) (at_number c.args.number more) (held_of new)) c.settle.ensures.merged;
    }

pub returns-in_default-clause-merged : goal.returns-in_default-clause-merged
returns-in_default-clause-merged c = absurd (rw (no_map c.args.self.now c.args.row c.requires.row c.args.seat c.index_mut-maps.ensures.value c.in_default.field-0 (c.in_default.ensures).missing) at c.requires.ready)
