use Rattle.std.proofs.Common.{◌≡◌, ℕ, inl, inr, subst, sym, true}
use Rattle.plan_runs.specs.World.{keeps}
use Rattle.plan_around.specs.Ends.{keeper}
use Rattle.plan_around.proofs.ending.mark_keepers.Goals as goal

pub loop-number-preserved : goal.loop-number-preserved
loop-number-preserved c = λ x f w m. elim (c.mark.ensures x f) [
  | inl h ↦ keeper c.in-Some.field-0-1 (subst (λ (y : ℕ). keeps w y c.in-Some.field-0-1 ≡ true) (sym h) (c.in-Some.ensures.some w m))
  | inr h ↦ c.loop-number.invariant x h w m
]
