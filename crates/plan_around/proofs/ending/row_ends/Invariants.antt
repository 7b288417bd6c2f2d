use Rattle.std.proofs.Common.{ℕ, ◌<◌}
use Rattle.plan_around.specs.Ending.{SlotEnds}
use Rattle.plan_around.proofs.ending.row_ends.Given as goal

abbrev pub invariant-loop-index : goal.invariant-loop-index
invariant-loop-index l = (i : ℕ) → i < l.index → SlotEnds l.it l.partition i
