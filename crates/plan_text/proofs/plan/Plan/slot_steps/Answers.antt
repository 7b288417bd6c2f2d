use Rattle.std.proofs.Common.{◌≡◌, rules}
use Rattle.plan_text.specs.Steps.{steps_of}
use Rattle.plan_text.proofs.Pushed.{steps_of-within}
use Rattle.plan_text.proofs.plan.Plan.slot_steps.Goals as goal

pub returns-clause-within : goal.returns-clause-within
returns-clause-within c =
    let e : c.slot_numbers.result.now ≡ steps_of c.args.self.now c.args.slot = search rules in
    λ i. rw e (steps_of-within c.args.self.now c.args.slot i)
