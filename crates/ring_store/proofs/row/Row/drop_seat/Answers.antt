use Rattle.std.proofs.Common.{sym, subst}
use Rattle.store_maps.proofs.Sorted.{taken_out, order_out, read_missing}
use Rattle.ring_store.specs.Seats.{AreInOrder}
use Rattle.ring_store.proofs.Rows.{seat_order, within_row}
use Rattle.ring_store.proofs.row.Row.drop_seat.Goals as goal

pub remove-requires : goal.remove-requires
remove-requires c = within_row c.args.self.now c.args.seat c.in-Ok.place (c.in-Ok.ensures).found

pub invariant_of-self : goal.invariant_of-self
invariant_of-self c = record { order = subst AreInOrder (sym c.remove.ensures.items) (order_out seat_order c.args.self.now.maps.items c.in-Ok.place c.args.self.now.order) }

pub returns-in-Ok-clause-gone : goal.returns-in-Ok-clause-gone
returns-in-Ok-clause-gone c = rw c.remove.ensures.items ((taken_out seat_order c.args.seat c.args.self.now.maps.items c.in-Ok.place c.args.self.now.order (c.in-Ok.ensures).found).gone)

pub returns-in-Ok-clause-others : goal.returns-in-Ok-clause-others
returns-in-Ok-clause-others c t ne = rw c.remove.ensures.items ((taken_out seat_order c.args.seat c.args.self.now.maps.items c.in-Ok.place c.args.self.now.order (c.in-Ok.ensures).found).others t ne)

pub returns-in_default-clause-gone : goal.returns-in_default-clause-gone
returns-in_default-clause-gone c = read_missing seat_order c.args.seat c.args.self.now.maps.items c.in_default.field-0 c.args.self.now.order (c.in_default.ensures).missing
