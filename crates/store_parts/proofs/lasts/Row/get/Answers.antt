use Rattle.std.proofs.Common.{subst, sym, arith}
use Rattle.std.specs.Ordering.{nat_cmp}
use Rattle.store_maps.specs.Sorted.{IsThere, GoesAt}
use Rattle.store_maps.proofs.Sorted.{number_order, within, read_there, read_missing}
use Rattle.store_parts.proofs.lasts.Row.get.Goals as goal

pub index-requires : goal.index-requires
index-requires c =
    let less = within nat_cmp c.args.writer c.as_slice.result.now c.in-Ok.place (c.in-Ok.ensures).found in
    let all = c.as_slice.ensures.len in omega arith

pub returns-in-Ok : goal.returns-in-Ok
returns-in-Ok c =
    let there = subst (λ es. IsThere nat_cmp c.args.writer es c.in-Ok.place) c.as_slice.ensures.value (c.in-Ok.ensures).found in
    sym (read_there number_order c.args.writer c.args.self.now.puts.items c.in-Ok.place c.index.result.now there (sym c.index.ensures))

pub returns-in-Err : goal.returns-in-Err
returns-in-Err c =
    let goes = subst (λ es. GoesAt nat_cmp c.args.writer es c.in-Err.field-0) c.as_slice.ensures.value (c.in-Err.ensures).missing in
    sym (read_missing number_order c.args.writer c.args.self.now.puts.items c.in-Err.field-0 c.args.self.now.order goes)
