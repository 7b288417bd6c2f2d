use Rattle.std.proofs.Common.{ℕ, ◌<◌}
use Rattle.plan_goal.specs.Cuts.{IsOfPlan, number_by, window_by}
use Rattle.plan_goal.proofs.pieces.are_of_plan.Given as goal

abbrev pub invariant-steps : goal.invariant-steps
invariant-steps l = (i : ℕ) → i < l.number → IsOfPlan l.plan (window_by l.pieces.places.items) (number_by l.pieces.places.items) l.window i
