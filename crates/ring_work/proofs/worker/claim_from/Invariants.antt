use Rattle.std.proofs.Common.{◌≡◌}
use Rattle.ring_work.proofs.worker.claim_from.Given as goal

abbrev pub invariant-places : goal.invariant-places
invariant-places g l = (l.seat.board ≡ l.fn.seat.board) × (l.seat.worker ≡ l.fn.seat.worker)
