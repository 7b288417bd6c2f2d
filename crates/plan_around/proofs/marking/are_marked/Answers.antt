use Rattle.std.proofs.Common.{◌≡◌, ◌∙◌, ℕ, below_more, sym, true}
use Rattle.plan_goal.specs.Sized.{is_flagged}
use Rattle.plan_around.proofs.marking.are_marked.Goals as goal

pub loop-place-preserved : goal.loop-place-preserved
loop-place-preserved c = below_more (λ (p : ℕ). is_flagged c.args.marks.now p ≡ true) c.loop-place.place c.loop-place.invariant (sym c.is_flagged.ensures ∙ c.if-not-is_flagged.false)
