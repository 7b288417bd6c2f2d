use Rattle.std.proofs.Common.{◌∙◌, length, sym, ap, subst, insert, arith}
use Rattle.std.specs.Ordering.{nat_cmp}
use Rattle.store_maps.specs.Sorted.{Ascends, IsThere, GoesAt, PutsAt}
use Rattle.store_maps.proofs.Sorted.{number_order, within, at_most, written, order_written, put_in, order_in}
use Rattle.store_maps.proofs.entries.put_few.Goals as goal

pub index_mut-requires : goal.index_mut-requires
index_mut-requires c =
    let less = within nat_cmp c.args.key c.as_slice.result.now c.in-Ok.place (c.in-Ok.ensures).found in
    let all = c.as_slice.ensures.len in omega arith

pub insert-requires : goal.insert-requires
insert-requires c =
    let less = at_most nat_cmp c.args.key c.as_slice.result.now c.in-Err.place (c.in-Err.ensures).missing in
    let all = ap length (c.as_slice.ensures.value ∙ sym c.lengthen.ensures.same) in omega arith

pub returns-in-Ok-clause-order : goal.returns-in-Ok-clause-order
returns-in-Ok-clause-order c = order_written number_order c.args.list.now.items c.in-Ok.place c.index_mut.result.now c.args.versions c.index_mut.ensures.value c.requires

pub returns-in-Ok-clause-ok : goal.returns-in-Ok-clause-ok
returns-in-Ok-clause-ok c =
    written number_order c.args.key c.args.list.now.items c.in-Ok.place c.index_mut.result.now c.args.versions
    (subst (λ es. IsThere nat_cmp c.args.key es c.in-Ok.place) c.as_slice.ensures.value (c.in-Ok.ensures).found) c.index_mut.ensures.value

pub returns-in_ok-insert-in-Err-clause-order : goal.returns-in_ok-insert-in-Err-clause-order
returns-in_ok-insert-in-Err-clause-order c =
    let goes = subst (λ es. GoesAt nat_cmp c.args.key es c.in-Err.place) c.as_slice.ensures.value (c.in-Err.ensures).missing in
    let is = (c.in_ok-insert-in-Err.ensures).items ∙ ap (λ es. insert es c.in-Err.place (c.args.key, c.args.versions)) c.lengthen.ensures.same in
    subst (Ascends nat_cmp) (sym is) (order_in number_order c.args.key c.args.versions c.args.list.now.items c.in-Err.place c.requires goes)

pub returns-in_ok-insert-in-Err-clause-ok : goal.returns-in_ok-insert-in-Err-clause-ok
returns-in_ok-insert-in-Err-clause-ok c =
    let old = c.args.list.now.items in
    let goes = subst (λ es. GoesAt nat_cmp c.args.key es c.in-Err.place) c.as_slice.ensures.value (c.in-Err.ensures).missing in
    let is = (c.in_ok-insert-in-Err.ensures).items ∙ ap (λ es. insert es c.in-Err.place (c.args.key, c.args.versions)) c.lengthen.ensures.same in
    subst (λ es. PutsAt nat_cmp old es c.args.key c.args.versions) (sym is) (put_in number_order c.args.key c.args.versions old c.in-Err.place goes)
