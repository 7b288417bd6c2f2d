use Rattle.std.proofs.Common.{◌≡◌, ◌≤◌, false, codes, sym, ap, subst, ◌∙◌}
use Rattle.texts.specs.Left.{Left, begins_with}
use Rattle.texts.proofs.Lates.{late-here}
use Rattle.plan_text.specs.Reading.{steps_from}
use Rattle.plan_text.proofs.PlanLates.{steps-late}
use Rattle.plan_text.proofs.reading.read_into.Goals as goal

pub returns-in_err-add-clause-late : goal.returns-in_err-add-clause-late
returns-in_err-add-clause-late c =
    let ring = c.args.ring.now in
    let plan = c.take_plain.new.plan in
    let lines = c.take_plain.new.lines in
    let total = steps_from ring c.args.plan.now c.args.lines.now.line c.args.lines.now.lines in
    let same_plan : plan ≡ c.steps.plan = c.take_plain.ensures.plan c.if-take_plain.false in
    let same_lines : lines ≡ c.steps.lines = c.take_plain.ensures.lines c.if-take_plain.false in
    let line = rw c.in_ok-fields.ensures.found.0 at c.in_ok-step.ensures.value in
    let other : begins_with (codes "end") lines.lines ≡ false = ap (λ (l : Left). begins_with (codes "end") l.lines) same_lines ∙ sym c.begins.ensures ∙ c.steps-test.true in
    let forward = subst (λ (l : Left). c.args.lines.now.line ≤ l.line) (sym same_lines) c.steps.invariant.forward in
    let rest : steps_from ring plan lines.line lines.lines ≡ total =
    ap (λ p. steps_from ring p lines.line lines.lines) same_plan ∙ ap (λ (l : Left). steps_from ring c.steps.plan l.line l.lines) same_lines ∙ c.steps.invariant.rest in
    late-here 1 c.from_residual-in_err-add.result c.args.lines.now c.next.new.self total
    (steps-late ring plan c.args.lines.now lines c.next.new.self c.in_ok-fields.fields.fields (c.in_ok-step.step, c.in_ok-step.after) total other c.in_ok-fields.ensures.found.1 (sym line) forward rest)
