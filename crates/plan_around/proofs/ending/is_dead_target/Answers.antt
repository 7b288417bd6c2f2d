use Rattle.std.proofs.Common.{◌∙◌, Some, ap}
use Rattle.plan_text.specs.declared.step.Step.{Step}
use Rattle.plan_stage.proofs.Places.{step_at-is}
use Rattle.plan_around.specs.Ends.{mirrored}
use Rattle.plan_around.proofs.ending.is_dead_target.Goals as goal

pub returns : goal.returns
returns c = λ t ring w.
    let found = c.is_mirror_at_dead.ensures t in
    mirrored c.args.number found.0 found.1 found.3 (step_at-is c.args.plan.now c.args.number c.step.result.now c.step.ensures.value ∙ ap (λ (s : Step). Some s) found.2)
