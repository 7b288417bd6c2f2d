-- How many copies run one behind the other.
use Rattle.std.specs.Prelude.{◌≡◌, ℕ, ◌+◌, List, [], ◌∷◌, Some, None, max, length, slice_get, slice_index}
use Rattle.plan_text.specs.declared.step.Step.{Step}
use Rattle.plan_text.specs.declared.step.Planned.{Planned}
use Rattle.plan_text.specs.Steps.{copy_of}

-- the greatest of the values at these places, or 0
abbrev pub greatest : List ℕ → List ℕ → ℕ
greatest values [] = 0
greatest values (p ∷ ps) = max (slice_index values p) (greatest values ps)

-- 1 for a copy
abbrev pub copies : Step → ℕ
copies s = elim (copy_of s) [ Some c ↦ 1 | None ↦ 0 ]

-- each step's round is the greatest round of the steps that it waits for, plus 1 if the step copies
pub record AreRounds (plan : List Planned) (rounds : List ℕ) : Type 0 where
  pub len : length rounds ≡ length plan
  pub each : (n : ℕ) (x : Planned) → slice_get plan n ≡ Some x → slice_get rounds n ≡ Some (greatest rounds x.after + copies x.step)
