use Rattle.std.proofs.Common.{ℕ, ◌<◌}
use Rattle.plan_around.specs.Ending.{SlotEnds}
use Rattle.plan_around.proofs.ending.slots_end.Given as goal

abbrev pub invariant-loop-partition : goal.invariant-loop-partition
invariant-loop-partition l = (p : ℕ) → p < l.partition → (i : ℕ) → i < l.it.ring.now.n → SlotEnds l.it p i
