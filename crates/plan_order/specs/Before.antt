-- Which step comes before which in every run.
use Rattle.std.specs.Prelude.{◌≡◌, ℕ, true, List}
use Rattle.plan_text.specs.declared.step.Planned.{Planned}
use Rattle.plan_text.specs.Steps.{depends}

-- step a is a direct dependency of step b, or of a step before b
pub data Before (plan : List Planned) : ℕ → ℕ → Type 0 where
  direct : (a b : ℕ) → depends plan a b ≡ true → Before plan a b
  through : (a b c : ℕ) → depends plan a b ≡ true → Before plan b c → Before plan a c
