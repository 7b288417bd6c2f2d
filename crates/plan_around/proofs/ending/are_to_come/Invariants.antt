use Rattle.std.proofs.Common.{ℕ, ◌<◌, ◌≤◌}
use Rattle.plan_runs.specs.World.{World}
use Rattle.ring_core.specs.World.{Meets}
use Rattle.plan_around.specs.Ends.{IsUnswitched}
use Rattle.plan_around.proofs.ending.are_to_come.Given as goal

abbrev pub invariant-loop-later : goal.invariant-loop-later
invariant-loop-later l = (i : ℕ) → i < l.later → l.place ≤ i → (w : World) → Meets l.before w → IsUnswitched l.plan w l.slot i
