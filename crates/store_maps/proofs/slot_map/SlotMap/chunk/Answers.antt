use Rattle.std.proofs.Common.{◌∙◌, sym, ap, subst, arith}
use Rattle.std.specs.Ordering.{nat_cmp}
use Rattle.store_maps.specs.Chunks.{held_of, place_in}
use Rattle.store_maps.specs.Slots.{held_for, has_place_for}
use Rattle.store_maps.specs.Sorted.{GoesAt, IsThere}
use Rattle.store_maps.proofs.Chunks.{no_place}
use Rattle.store_maps.proofs.Sorted.{number_order, within, read_there, read_missing}
use Rattle.store_maps.proofs.slot_map.SlotMap.chunk.Goals as goal

pub index-requires : goal.index-requires
index-requires c =
    let less = within nat_cmp c.args.chunk c.as_slice.result.now c.in-Ok.place (c.in-Ok.ensures).found in
    let all = c.as_slice.ensures.len in omega arith

pub returns-in-Ok-clause-same : goal.returns-in-Ok-clause-same
unfolding held_for
returns-in-Ok-clause-same c n =
    let there = subst (λ es. IsThere nat_cmp c.args.chunk es c.in-Ok.place) c.as_slice.ensures.value (c.in-Ok.ensures).found in
    sym (ap (λ o. held_of o n) (read_there number_order c.args.chunk c.args.self.now.chunks.items c.in-Ok.place c.index.result.now there (sym c.index.ensures)))

pub returns-in-Ok-clause-places : goal.returns-in-Ok-clause-places
unfolding has_place_for
returns-in-Ok-clause-places c n =
    let there = subst (λ es. IsThere nat_cmp c.args.chunk es c.in-Ok.place) c.as_slice.ensures.value (c.in-Ok.ensures).found in
    sym (ap (λ o. place_in o n) (read_there number_order c.args.chunk c.args.self.now.chunks.items c.in-Ok.place c.index.result.now there (sym c.index.ensures)))

pub returns-in-Err-clause-same : goal.returns-in-Err-clause-same
unfolding held_for
returns-in-Err-clause-same c n =
    let a = c.args.self.now in
    let goes = subst (λ es. GoesAt nat_cmp c.args.chunk es c.in-Err.field-0) c.as_slice.ensures.value (c.in-Err.ensures).missing in
    no_place a.empty n (a.bare n) ∙ sym (ap (λ o. held_of o n) (read_missing number_order c.args.chunk a.chunks.items c.in-Err.field-0 a.order goes))

pub returns-in-Err-clause-places : goal.returns-in-Err-clause-places
unfolding has_place_for
returns-in-Err-clause-places c n =
    let a = c.args.self.now in
    let goes = subst (λ es. GoesAt nat_cmp c.args.chunk es c.in-Err.field-0) c.as_slice.ensures.value (c.in-Err.ensures).missing in
    a.bare n ∙ sym (ap (λ o. place_in o n) (read_missing number_order c.args.chunk a.chunks.items c.in-Err.field-0 a.order goes))
