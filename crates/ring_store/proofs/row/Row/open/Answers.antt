use Rattle.std.proofs.Common.{◌∙◌, length, insert, is_ok, sym, ap, arith}
use Rattle.store_maps.specs.Chunks.{held_of}
use Rattle.store_maps.proofs.OneAnswer.{either}
use Rattle.store_maps.proofs.Sorted.{at_most, read_missing, put_in, order_in}
use Rattle.ring_store.specs.Seats.{seat_cmp, AreInOrder}
use Rattle.ring_store.proofs.Rows.{seat_order, there_in}
use Rattle.ring_store.proofs.row.Row.open.Goals as goal

pub insert-requires : goal.insert-requires
insert-requires c =
    let most = at_most seat_cmp c.args.seat c.args.self.now.maps.items c.in-Err.place (c.in-Err.ensures).missing in
    let ok = c.lengthen.new.list.ok.0 in let same = ap length (c.in_ok-lengthen-in-Err.ensures).same in
    omega arith

pub invariant_of-self-in-Err : goal.invariant_of-self-in-Err
invariant_of-self-in-Err c =
    let maps = c.args.self.now.maps.items in
    record {
      order = rw (c.insert.ensures.items, (c.in_ok-lengthen-in-Err.ensures).same)
          (either AreInOrder (is_ok c.insert.result) (insert maps c.in-Err.place (c.args.seat, c.new.result)) maps (order_in seat_order c.args.seat c.new.result maps c.in-Err.place c.args.self.now.order (c.in-Err.ensures).missing) c.args.self.now.order);
    }

pub returns-in_ok-insert-in-Err-clause-at : goal.returns-in_ok-insert-in-Err-clause-at
returns-in_ok-insert-in-Err-clause-at c = rw ((c.in_ok-insert-in-Err.ensures).items, (c.in_ok-lengthen-in-Err.ensures).same) (there_in c.args.seat c.new.result c.args.self.now.maps.items c.in-Err.place (c.in-Err.ensures).missing)

pub returns-in_ok-insert-in-Err-clause-same : goal.returns-in_ok-insert-in-Err-clause-same
returns-in_ok-insert-in-Err-clause-same c n =
    let maps = c.args.self.now.maps.items in
    let here = rw (← (c.in_ok-lengthen-in-Err.ensures).same, ← (c.in_ok-insert-in-Err.ensures).items) at (put_in seat_order c.args.seat c.new.result maps c.in-Err.place (c.in-Err.ensures).missing).here in
    ap (λ o. held_of o n) here ∙ c.new.ensures.versions n ∙ sym (ap (λ o. held_of o n) (read_missing seat_order c.args.seat maps c.in-Err.place c.args.self.now.order (c.in-Err.ensures).missing))

pub returns-in_ok-insert-in-Err-clause-others : goal.returns-in_ok-insert-in-Err-clause-others
returns-in_ok-insert-in-Err-clause-others c t ne = rw ((c.in_ok-insert-in-Err.ensures).items, (c.in_ok-lengthen-in-Err.ensures).same) ((put_in seat_order c.args.seat c.new.result c.args.self.now.maps.items c.in-Err.place (c.in-Err.ensures).missing).others t ne)
