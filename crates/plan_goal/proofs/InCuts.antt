-- Steps and windows past the last.
use Rattle.std.proofs.Common.{◌≡◌, ℕ, zero, suc, ◌<◌, ◌≤◌, List, [], ◌∷◌, length, refl, arith}
use Rattle.plan_text.specs.declared.step.Planned.{Planned}
use Rattle.plan_goal.specs.Cuts.{plan_at, step_by}
use Rattle.plan_goal.specs.declared.pieces.Place.{Place}

-- a window past the last has no step
pub none_beyond : (plans : List (List Planned)) (k i : ℕ) → length plans ≤ k → i < length (plan_at plans k) → ⊥
none_beyond [] k i l h = omega arith
none_beyond (x ∷ xs) zero i l h = omega arith
none_beyond (x ∷ xs) (suc k) i l h = none_beyond xs k i (omega arith) h

-- at equal places is one step
pub same_step : (steps : List (List ℕ)) (x y : Place) → x.window ≡ y.window → x.number ≡ y.number → step_by steps x ≡ step_by steps y
same_step steps x y e f = rw (e, f) refl
