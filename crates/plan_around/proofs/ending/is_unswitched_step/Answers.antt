use Rattle.std.proofs.Common.{◌≡◌, ◌∙◌, Some, sym}
use Rattle.plan_text.specs.declared.step.Step.TheVariants.{Switch}
use Rattle.plan_stage.proofs.Places.{step_at-is}
use Rattle.plan_around.proofs.ending.is_unswitched_step.Goals as goal

pub returns : goal.returns
returns c = λ t w m s e.
    let one : Some c.step.result.now ≡ Some (Switch s) = sym (step_at-is c.args.plan.now c.args.number c.step.result.now c.step.ensures.value) ∙ e in
    let same : c.step.result.now ≡ Switch s = cc in
    c.is_unswitched.ensures t w m s same
