use Rattle.std.proofs.Common.{subst}
use Rattle.std.specs.Ordering.{nat_cmp}
use Rattle.store_maps.specs.Sorted.{PutsAt}
use Rattle.store_maps.proofs.EntriesLeft.{filling_more}
use Rattle.store_maps.proofs.Sorted.{number_order, puts_at}
use Rattle.store_maps.proofs.entries.tree_with.Goals as goal

pub entries-preserved : goal.entries-preserved
entries-preserved c =
    let m = c.entries.tree in
    let n = c.insert.new.self in
    let key = c.in-Some.field-0-0.now.0 in
    let put = puts_at number_order key m n c.in_ok-try_copy.field-0 (c.in_ok-insert.ensures).updates in
    let same = subst (PutsAt nat_cmp m.entries n.entries key) (c.in_ok-try_copy.ensures).same put in
    filling_more c.args.list.now m.entries n.entries c.entries.rest.now c.in-Some.later.now key c.in-Some.field-0-0.now.1 (c.in-Some.ensures).cases.0 c.insert.ensures.ordered same c.entries.invariant
