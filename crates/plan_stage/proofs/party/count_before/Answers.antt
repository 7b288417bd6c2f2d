use Rattle.std.proofs.Common.{◌≡◌, ◌≤◌, ℕ, List, length, ◌∙◌, ap, arith}
use Rattle.std.specs.Prelude.{count_by, nat_lt}
use Rattle.std.proofs.lemmas.List.Sums.{count_by-le-length}
use Rattle.plan_text.specs.Steps.{steps_of}
use Rattle.plan_stage.specs.Parties.{count_below}
use Rattle.plan_stage.proofs.Copies.{count_by-count_below, steps_of-few}
use Rattle.plan_stage.proofs.party.count_before.Goals as goal

pub overflow_cast-result : goal.overflow_cast-result
overflow_cast-result c =
    let numbers = c.slot_steps.result.now in
    let some : count_by (λ s. nat_lt s c.args.step) numbers ≤ length numbers = count_by-le-length (λ s. nat_lt s c.args.step) numbers in
    let same : length numbers ≡ length (steps_of c.args.plan.now c.args.slot) = ap (λ (l : List ℕ). length l) c.slot_steps.ensures.value in
    omega (arith, some, same, steps_of-few c.args.plan.now c.args.slot, c.slot_steps.ensures.valid.steps, c.count_less.ensures)

pub returns : goal.returns
returns c =
    c.count_less.ensures ∙ count_by-count_below c.args.step c.slot_steps.result.now ∙ ap (count_below c.args.step) c.slot_steps.ensures.value
