use Rattle.std.proofs.Common.{refl, eq-eqb}
use Rattle.plan_runs.specs.declared.event.Event.TheVariants.{Ack}
use Rattle.ring_board.specs.Kinds.{sends, acknowledges}
use Rattle.ring_work.proofs.Growing.{completes_by}
use Rattle.ring_work.proofs.putting.round.Goals as goal

pub returns-clause-completes : goal.returns-clause-completes
returns-clause-completes g c =
    let put = c.args.put in
    completes_by (sends put) (acknowledges put) (Ack put) c.args.receipts.now.items c.send_round.new.receipts.items c.note.new.receipts.items c.send_round.ensures.grows (eq-eqb put put refl) c.in_ok-note.ensures.ok
