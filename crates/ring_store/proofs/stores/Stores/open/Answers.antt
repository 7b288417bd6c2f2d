use Rattle.std.proofs.Common.{◌∙◌, refl, sym, ap, subst}
use Rattle.std.proofs.lemmas.Option.{same_Some}
use Rattle.std.proofs.lemmas.Result.{IfOk-weaker}
use Rattle.store_maps.specs.Chunks.{held_of}
use Rattle.store_maps.specs.Sorted.{IsThere}
use Rattle.ring_store.specs.Seats.{seat_cmp}
use Rattle.ring_store.specs.Stores.{map_of}
use Rattle.ring_store.specs.declared.row.Row.{Row}
use Rattle.ring_store.proofs.Changes.{changes, row_is, row_becomes}
use Rattle.ring_store.proofs.stores.Stores.open.Goals as goal

pub returns : goal.returns
returns c =
    let a = c.args.self.now in
    let row = c.index_mut-maps.result.now in
    let w = c.open.new.self in
    let is = row_is a c.args.row row w c.requires c.index_mut-maps.ensures.value in
    let becomes = row_becomes a c.args.row row w c.requires c.index_mut-maps.ensures.value in
    record {
      only = changes a c.args.row row w c.requires c.index_mut-maps.ensures.value _ c.args.seat refl refl c.open.ensures.others;
      same = λ n. ap (λ o. held_of (map_of o c.args.seat) n) becomes ∙ c.open.ensures.same n ∙ sym (ap (λ o. held_of (map_of o c.args.seat) n) is);
      at = IfOk-weaker c.open.result _ _ (λ place there. λ x e. subst (λ (r : Row). IsThere seat_cmp c.args.seat r.maps.items place) (same_Some w x (sym becomes ∙ e)) there) c.open.ensures.at;
      memory = c.open.ensures.memory;
    }
