-- What a seat is seen as.
use Rattle.std.specs.Prelude.{◌≡◌, [], map, slice_index}
use Rattle.ring_board.specs.declared.seat.Seat.TheInside.{Inside}
use Rattle.ring_board.specs.Seats.{SeatView}
use Rattle.ring_board.specs.Views.{view_of, IsSeat}

-- the seat without the worker of each step
abbrev pub shown : Inside → SeatView
shown a =
    record {
      board = a.seat.table_id;
      worker = a.worker;
      held = map (λ m. m.step) a.seat.me.0.held;
      finished = map (λ m. m.step) a.seat.me.0.finished;
      known = a.seat.me.0.known;
      seen = a.seat.me.0.seen;
      share = slice_index a.seat.me.0.parts 0;
    }

-- what holds of the fields together: each step is the seat's own worker's, and the seat has no slot of the table
pub record IsSeated (a : Inside) : Type 0 where
  pub own : a.seat.me ≡ (view_of (shown a), [])
  pub seat : IsSeat (shown a)
