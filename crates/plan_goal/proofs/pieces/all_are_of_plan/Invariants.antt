use Rattle.std.proofs.Common.{ℕ, ◌<◌, length}
use Rattle.plan_goal.specs.Cuts.{IsOfPlan, number_by, plan_at, window_by}
use Rattle.plan_goal.proofs.pieces.all_are_of_plan.Given as goal

abbrev pub invariant-windows : goal.invariant-windows
invariant-windows l = (k : ℕ) → k < l.window → (i : ℕ) → i < length (plan_at l.pieces.plans.items k)
    → IsOfPlan l.plan (window_by l.pieces.places.items) (number_by l.pieces.places.items) k i
