use Rattle.std.proofs.Common.{◌≡◌, ◌<◌, ◌≤◌, ℕ, false}
use Rattle.ring_core.specs.Tables.{can_begin_kept}
use Rattle.ring_core.specs.World.{plan_of}
use Rattle.ring_core.proofs.world.World.ready.Given as goal

abbrev pub invariant-loop-step : goal.invariant-loop-step
invariant-loop-step l = record {
  from : l.from ≤ l.step;
  none : (m : ℕ) → l.from ≤ m → m < l.step → can_begin_kept (plan_of l.self) l.self.parts.steps m ≡ false;
}
