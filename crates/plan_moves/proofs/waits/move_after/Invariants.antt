use Rattle.std.proofs.Common.{◌≡◌, ℕ, ◌<◌, true, length, take}
use Rattle.std.specs.Prelude.{◌&&◌, not}
use Rattle.std.specs.List.{list_any}
use Rattle.ring_names.specs.Lists.{has}
use Rattle.plan_text.specs.Steps.{depends}
use Rattle.plan_moves.proofs.waits.move_after.Given as goal

abbrev pub invariant-loop-step : goal.invariant-loop-step
invariant-loop-step l = record {
  waits : (n : ℕ) → has n l.found.keys ≡ (list_any (λ s. depends l.plan n s) (take l.step-index l.own) && not (has n l.own));
  within : (n : ℕ) → has n l.found.keys ≡ true → n < length l.plan;
}
