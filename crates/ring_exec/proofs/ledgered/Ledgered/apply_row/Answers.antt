use Rattle.std.proofs.Common.{rules, arith}
use Rattle.ring_exec.proofs.Rowed.{row_on}
use Rattle.ring_exec.proofs.ledgered.Ledgered.apply_row.Goals as goal

pub loop-event-preserved : goal.loop-event-preserved
loop-event-preserved g c =
    let i = c.loop-event.invariant in
    let len = i.len in
    let room = i.room in
    let count = i.count in
    let told = c.in_ok-receipt.ensures in
    let place = told.receipt.1 in
    let few = told.room in
    let counted = told.count in
    let longer = c.push_reserved.ensures.len in
    let same = c.push_reserved.ensures.capacity in
    record {
      row = row_on c.args.events.now c.args.receipts.now.items c.loop-event.receipts.items c.push_reserved.new.self.items c.loop-event.event-index c.event-item.result c.in_ok-receipt.receipt
          i.row (let a = c.loop-event.receipts.ok in let b = c.args.receipts.now.ok in omega arith) c.loop-event-test.true c.event-item.is c.push_reserved.ensures.items told.receipt.0 told.reply (omega arith);
      len = omega arith;
      room = omega arith;
      count = omega arith;
      parts = search rules;
    }
