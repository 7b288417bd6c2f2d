-- A seat more is a view more, which knows nothing.
use Rattle.std.proofs.Common.{◌≡◌, ◌+◌, sym, ap, ◌∙◌, arith}
use Rattle.ring_board.specs.Seats.{BoardView, SeatView}
use Rattle.ring_board.proofs.Steps.{seating}
use Rattle.ring_board.proofs.board.Board.seat.Goals as goal

pub split_seat-requires : goal.split_seat-requires
split_seat-requires c =
    let words : c.self.inside.table.shared.table_id.words ≡ c.self.inside.size.steps + 1 = c.self.invariant.words in (
      ap (λ (z : SeatView). z.board) c.seat.view_is ∙ c.requires.board ∙ sym (ap (λ (z : BoardView). z.id) c.self.view_is),
      omega arith,
      seating c.self.inside.table.shared.key c.seat.inside.seat.id c.seat.inside.seat.me.0,
    )
