use Rattle.std.proofs.Common.{◌≡◌}
use Rattle.ring_work.proofs.worker.is_next.Given as goal

abbrev pub invariant-loop-other : goal.invariant-loop-other
invariant-loop-other l = (l.seat.board ≡ l.fn.seat.board) × (l.seat.worker ≡ l.fn.seat.worker)
