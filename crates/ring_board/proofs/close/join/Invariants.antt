-- The one seat knows what those knew that were taken from the end.
use Rattle.std.proofs.Common.{◌≡◌, List, [], ◌++◌, vec_len}
use Rattle.std.specs.List.{AllByRecursion}
use Rattle.ring_board.specs.Seats.{SeatView}
use Rattle.ring_board.specs.Views.{IsSeat, joined}
use Rattle.ring_board.proofs.close.join.Given as goal

abbrev pub invariant-loop-next : goal.invariant-loop-next
invariant-loop-next l =
    (taken : List SeatView)
    × (l.fn.seats.items ≡ l.seats.items ++ taken)
    × (l.seat.table_id ≡ l.shared.table_id)
    × (l.seat.me ≡ (joined taken, []))
    × AllByRecursion IsSeat taken

abbrev pub decreases-loop-next : goal.decreases-loop-next
decreases-loop-next l = vec_len l.seats
