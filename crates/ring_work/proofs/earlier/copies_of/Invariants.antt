use Rattle.std.proofs.Common.{◌≡◌}
use Rattle.ring_work.specs.Resumed.{open_copies}
use Rattle.ring_work.proofs.earlier.copies_of.Given as goal

abbrev pub invariant-loop-step : goal.invariant-loop-step
invariant-loop-step l = l.copies.items ≡ open_copies l.step l.entries
