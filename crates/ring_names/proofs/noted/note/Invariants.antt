use Rattle.std.proofs.Common.{◌≡◌}
use Rattle.ring_names.proofs.noted.note.Given as goal

abbrev pub invariant-loop-near : goal.invariant-loop-near
invariant-loop-near l = l.table ≡ l.initial.table
