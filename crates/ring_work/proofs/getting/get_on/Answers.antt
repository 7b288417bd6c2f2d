use Rattle.ring_work.proofs.Attempts.{get_made}
use Rattle.ring_work.proofs.getting.get_on.Goals as goal

pub returns-in-Ok-clause-block : goal.returns-in-Ok-clause-block
returns-in-Ok-clause-block g c =
    let s = c.in-Ok.ensures.ok in
    get_made c.args.key c.args.receipts.now.items c.start_get.new.receipts.items c.finish_get.new.receipts.items c.finish_get.result s.0 c.in-Ok.get s.1 s.2 s.3 c.finish_get.ensures.completes
