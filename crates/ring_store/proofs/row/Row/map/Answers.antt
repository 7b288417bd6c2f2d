use Rattle.std.proofs.Common.{sym}
use Rattle.store_maps.proofs.Sorted.{read_there, read_missing}
use Rattle.ring_store.proofs.Rows.{seat_order, within_row}
use Rattle.ring_store.proofs.row.Row.map.Goals as goal

pub index-requires : goal.index-requires
index-requires c = within_row c.args.self.now c.args.seat c.in-Ok.place (c.in-Ok.ensures).found

pub returns-in-Ok-clause-some : goal.returns-in-Ok-clause-some
returns-in-Ok-clause-some c = read_there seat_order c.args.seat c.args.self.now.maps.items c.in-Ok.place c.index.result.now (c.in-Ok.ensures).found (sym c.index.ensures)

pub returns-in-Err-clause-none : goal.returns-in-Err-clause-none
returns-in-Err-clause-none c = read_missing seat_order c.args.seat c.args.self.now.maps.items c.in-Err.field-0 c.args.self.now.order (c.in-Err.ensures).missing
