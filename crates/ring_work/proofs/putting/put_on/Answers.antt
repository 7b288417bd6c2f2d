use Rattle.ring_work.proofs.Attempts.{put_made}
use Rattle.ring_work.proofs.putting.put_on.Goals as goal

pub returns-in-Ok-clause-block : goal.returns-in-Ok-clause-block
returns-in-Ok-clause-block g c =
    let s = c.in-Ok.ensures.ok in
    put_made c.args.start.now c.args.receipts.now.items c.start_put.new.receipts.items c.send_rounds.new.receipts.items c.send_rounds.result s.0 c.in-Ok.put s.1 s.2 s.3 c.send_rounds.ensures.completes
