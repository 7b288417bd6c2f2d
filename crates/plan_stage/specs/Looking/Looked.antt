-- How the checker looks at a clause: the clauses of the steps that are looked at.
use Rattle.std.specs.Prelude.{ℕ, List, [], ◌∷◌, ◌++◌, Some, None}
use Rattle.plan_text.specs.declared.step.Step.{Step}
use Rattle.plan_text.specs.declared.step.Planned.{Planned}
use Rattle.plan_stage.specs.Clauses.{Guard}
use Rattle.plan_stage.specs.Each.{step_at}

-- the clauses of the step of that number
abbrev pub clauses_at : (ℕ → Step → List Guard) → List Planned → ℕ → List Guard
clauses_at clauses plan n = elim (step_at plan n) [ Some s ↦ clauses n s | None ↦ [] ]

-- those of the steps of these numbers, in their order
abbrev pub clauses_of : (ℕ → Step → List Guard) → List Planned → List ℕ → List Guard
clauses_of clauses plan [] = []
clauses_of clauses plan (n ∷ ns) = clauses_at clauses plan n ++ clauses_of clauses plan ns
