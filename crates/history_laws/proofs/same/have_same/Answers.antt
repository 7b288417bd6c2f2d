use Rattle.std.proofs.Common.{Some, ap, ◌∙◌}
use Rattle.plan_text.specs.declared.step.Step.{Step}
use Rattle.plan_stage.proofs.Places.{step_at-is}
use Rattle.history_laws.proofs.same.have_same.Goals as goal

pub returns : goal.returns
returns c = λ t. (
  c.step-mine.result.now,
  step_at-is c.args.old.now c.args.step c.step-mine.result.now c.step-mine.ensures.value,
  step_at-is c.args.new.now c.args.number c.step-theirs.result.now c.step-theirs.ensures.value ∙ ap (λ (s : Step). Some s) (c.is_step.ensures t),
)
