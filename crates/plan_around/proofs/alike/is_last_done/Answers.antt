use Rattle.std.proofs.Common.{ℕ, List, ◌-◌, ◌∙◌, length, ap}
use Rattle.std.specs.Prelude.{slice_get}
use Rattle.plan_around.specs.Alike.{last_step}
use Rattle.plan_around.proofs.Comparing.{last_done, not_some}
use Rattle.plan_around.proofs.alike.is_last_done.Goals as goal

pub returns-in-None : goal.returns-in-None
returns-in-None c t u m n e =
    absurd (not_some (last_step c.args.plan.now c.args.slot) n (c.in-None.ensures.value ∙ ap (λ (xs : List ℕ). slice_get xs (length xs - 1)) c.slot_steps-steps.ensures.value) e)

pub returns-in-Some : goal.returns-in-Some
returns-in-Some c t u m n e =
    last_done c.args.plan.now c.args.slot u c.in-Some.number.now n e
    (c.in-Some.ensures.value ∙ ap (λ (xs : List ℕ). slice_get xs (length xs - 1)) c.slot_steps-steps.ensures.value)
    (c.is_step_done.ensures t u m)
