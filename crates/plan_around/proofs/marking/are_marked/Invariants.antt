use Rattle.std.proofs.Common.{◌≡◌, ℕ, ◌<◌, true}
use Rattle.plan_goal.specs.Sized.{is_flagged}
use Rattle.plan_around.proofs.marking.are_marked.Given as goal

abbrev pub invariant-loop-place : goal.invariant-loop-place
invariant-loop-place l = (p : ℕ) → p < l.place → is_flagged l.marks p ≡ true
