use Rattle.std.proofs.Common.{◌≡◌, true}
use Rattle.std.specs.Prelude.{is_some}
use Rattle.tests_checker.proofs.board.took_all.Given as goal

abbrev pub invariant-loop-step : goal.invariant-loop-step
invariant-loop-step l = (l.seat.board ≡ l.board.id) × (is_some l.seat.worker ≡ true)
