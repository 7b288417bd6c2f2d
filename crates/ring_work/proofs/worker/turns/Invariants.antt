use Rattle.std.proofs.Common.{◌≡◌, ◌≤◌}
use Rattle.ring_work.proofs.worker.turns.Given as goal

abbrev pub invariant-turns : goal.invariant-turns
invariant-turns g l = (l.sat.seat.board ≡ l.fn.sat.seat.board) × (l.sat.seat.worker ≡ l.fn.sat.seat.worker) × (l.idle ≤ 1000000)
