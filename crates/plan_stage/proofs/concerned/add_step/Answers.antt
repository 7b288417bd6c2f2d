use Rattle.std.proofs.Common.{refl}
use Rattle.plan_text.proofs.Pushed.{on_both}
use Rattle.plan_stage.proofs.Gathering.{step-mirrors}
use Rattle.plan_stage.proofs.concerned.add_step.Goals as goal

pub returns-in_ok-add_number-in-Mirror-clause-step : goal.returns-in_ok-add_number-in-Mirror-clause-step
returns-in_ok-add_number-in-Mirror-clause-step c =
    on_both c.add_retirement.result (λ g r. step-mirrors c.args.plan.now c.args.number c.step.result.now c.in-Mirror.node c.add_number.new.numbers.items c.add_retirement.new.numbers.items c.step.ensures.value (rw c.in-Mirror.is refl) c.in_ok-add_number-in-Mirror.ensures.added g r) c.add_retirement.ensures.grows c.add_retirement.ensures.retirement
