use Rattle.std.proofs.Common.{◌≡◌, length}
use Rattle.plan_runs.specs.World.{passing_below}
use Rattle.ring_core.specs.Transfers.{is_open_kept}
use Rattle.ring_core.specs.World.{plan_of}
use Rattle.ring_core.proofs.world.World.transfers.Given as goal

abbrev pub invariant-loop-step : goal.invariant-loop-step
invariant-loop-step l = length (passing_below l.step (is_open_kept (plan_of l.self) l.self.parts.steps l.self.parts.slots l.node.0 l.side)) ≡ l.count
