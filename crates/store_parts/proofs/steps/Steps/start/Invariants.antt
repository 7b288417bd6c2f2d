use Rattle.std.proofs.Common.{◌≡◌, ◌≤◌, replicate}
use Rattle.std.specs.Vec.{vec_capacity}
use Rattle.store_parts.specs.Steps.{step_at_start}
use Rattle.store_parts.proofs.steps.Steps.start.Given as goal

abbrev pub invariant-loop-step : goal.invariant-loop-step
invariant-loop-step l = record {
  room : l.count ≤ vec_capacity l.steps;
  steps : l.steps.items ≡ replicate l.step step_at_start;
}
