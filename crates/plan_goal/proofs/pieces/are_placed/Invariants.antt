use Rattle.std.proofs.Common.{◌≡◌, ℕ, ◌<◌, Some, map}
use Rattle.plan_goal.specs.Cuts.{IsPlaced, number_by, place_of, step_by, window_by}
use Rattle.plan_goal.proofs.pieces.are_placed.Given as goal

abbrev pub invariant-steps : goal.invariant-steps
invariant-steps l = (n : ℕ) → n < l.step → IsPlaced l.plan l.pieces.plans.items (window_by l.pieces.places.items) (number_by l.pieces.places.items) n
    × (step_by (map (λ v. v.items) l.pieces.steps.items) (place_of l.pieces.places.items n) ≡ Some n)
