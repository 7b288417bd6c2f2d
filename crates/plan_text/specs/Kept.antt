-- What holds of a plan's fields.
use Rattle.std.specs.Prelude.{◌≡◌, ℕ, List, [], ◌∷◌, length}
use Rattle.plan_text.specs.declared.step.Step.{Step}
use Rattle.plan_text.specs.declared.step.Planned.{Planned}
use Rattle.plan_text.specs.declared.plan.Plan.TheInside.{Inside}
use Rattle.plan_text.specs.Valid.{IsPlan}
use Rattle.plan_text.specs.Held.{HoldsSteps}

-- each step with the row of its dependencies
abbrev pub planned_with : List Step → List (List ℕ) → List Planned
planned_with [] rows = []
planned_with (s ∷ steps) [] = []
planned_with (s ∷ steps) (r ∷ rows) = record { step = s; after = r } ∷ planned_with steps rows

-- the steps of the plan
abbrev pub plan_of : Inside → List Planned
plan_of a = planned_with a.steps.items a.rows

-- what holds of the fields together
pub record HoldsPlan (a : Inside) : Type 0 where
  pub plan : IsPlan (plan_of a)
  pub rows : length a.rows ≡ length a.steps.items
  pub index : HoldsSteps a.index (plan_of a)
