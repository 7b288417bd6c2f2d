-- What a board is seen as.
use Rattle.std.specs.Prelude.{◌≡◌, ◌+◌, ◌≤◌}
use Rattle.ring_board.specs.declared.board.Board.TheInside.{Inside}
use Rattle.ring_board.specs.Seats.{BoardView}

-- the board without how it is kept
abbrev pub board_of : Inside → BoardView
board_of a = record { id = a.table.shared.table_id; steps = a.size.steps; workers = a.size.workers }

-- what holds of the fields together: the table has a word more than steps, and a slot for each worker
pub record IsBoard (a : Inside) : Type 0 where
  pub words : a.table.shared.table_id.words ≡ a.size.steps + 1
  pub slots : a.table.shared.table_id.slots ≡ a.size.workers
  pub key : a.table.shared.key ≡ a.size
  pub few : a.size.workers ≤ 65
