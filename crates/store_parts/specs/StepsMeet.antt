-- What the steps that are kept say of a world.
use Rattle.std.specs.Prelude.{◌≡◌, ℕ, List, length}
use Rattle.plan_text.specs.declared.step.Planned.{Planned}
use Rattle.plan_runs.specs.World.{World}
use Rattle.store_parts.specs.declared.steps.StepNow.{StepNow}
use Rattle.store_parts.specs.Steps.{is_done_at, is_open_at, is_marked_at}

-- they tell which steps are finished, which copies are open and which chunks are marked
pub record StepsMeet (plan : List Planned) (steps : List StepNow) (w : World) : Type 0 where
  pub each : length steps ≡ length plan
  pub done : (n : ℕ) → is_done_at steps n ≡ w.done n
  pub is_open : (n : ℕ) → is_open_at steps n ≡ w.is_open n
  pub marked : (n c : ℕ) → is_marked_at steps n c ≡ w.marked n c
