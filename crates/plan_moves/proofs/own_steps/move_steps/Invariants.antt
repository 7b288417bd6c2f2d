use Rattle.std.proofs.Common.{◌≡◌, ◌++◌, drop}
use Rattle.std.specs.Prelude.{not}
use Rattle.std.specs.List.{take_while}
use Rattle.plan_moves.specs.MoveLines.{sets_mirror, move_steps}
use Rattle.plan_moves.proofs.own_steps.move_steps.Given as goal

abbrev pub invariant-loop-step : goal.invariant-loop-step
invariant-loop-step l = l.steps.items ++ take_while (λ s. not (sets_mirror l.plan s)) (drop l.step-index l.step-items) ≡ move_steps l.plan l.movement
