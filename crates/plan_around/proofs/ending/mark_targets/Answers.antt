use Rattle.std.proofs.Common.{◌∙◌, Some, ap, inl, inr}
use Rattle.plan_text.specs.declared.step.Step.{Step}
use Rattle.plan_stage.proofs.Places.{step_at-is}
use Rattle.plan_around.specs.Ends.{mirror}
use Rattle.plan_around.proofs.ending.mark_targets.Goals as goal

pub loop-number-preserved : goal.loop-number-preserved
loop-number-preserved c = λ x f w m. elim (c.mark_target.ensures x f) [
  | inl h ↦ mirror c.loop-number.number h.0 h.1 (step_at-is c.args.it.now.new.now c.loop-number.number c.step.result.now c.step.ensures.value ∙ ap (λ (s : Step). Some s) h.2) h.3
  | inr h ↦ c.loop-number.invariant x h w m
]
