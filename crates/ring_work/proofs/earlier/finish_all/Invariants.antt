use Rattle.std.proofs.Common.{◌≡◌}
use Rattle.ring_work.proofs.earlier.finish_all.Given as goal

abbrev pub invariant-loop-entry : goal.invariant-loop-entry
invariant-loop-entry l = (l.seat.board ≡ l.fn.board.id) × (l.seat.worker ≡ l.fn.seat.worker)
