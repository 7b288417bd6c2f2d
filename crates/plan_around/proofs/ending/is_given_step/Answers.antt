use Rattle.std.proofs.Common.{◌∙◌, Some, ap}
use Rattle.plan_text.specs.declared.step.Step.{Step}
use Rattle.plan_stage.proofs.Places.{step_at-is}
use Rattle.plan_around.proofs.ending.is_given_step.Goals as goal

pub returns : goal.returns
returns c = λ t w m.
    let copy = c.is_given_by.ensures.same t in (
      copy.0,
      step_at-is c.args.plan.now c.args.number c.step.result.now c.step.ensures.value ∙ ap (λ (s : Step). Some s) copy.1,
      c.is_given_by.ensures.over t w m,
    )
