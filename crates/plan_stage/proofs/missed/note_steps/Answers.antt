use Rattle.std.proofs.Common.{◌≡◌, ◌∙◌, ℕ, List, None, true, sym, ap, subst}
use Rattle.std.proofs.lemmas.Result.{on_ok_weaker}
use Rattle.ring_names.specs.Lists.{has}
use Rattle.plan_order.specs.Order.{order}
use Rattle.plan_stage.specs.Clauses.{first_failing}
use Rattle.plan_stage.specs.Missed.{HoldBut}
use Rattle.plan_stage.specs.Partition.{step_clauses}
use Rattle.plan_stage.specs.Looking.Looked.{clauses_at, clauses_of}
use Rattle.plan_stage.proofs.Looking.{concerned-enough}
use Rattle.plan_stage.proofs.Noted.{all-noted}
use Rattle.plan_stage.proofs.missed.note_steps.Goals as goal

pub returns-clause-holds : goal.returns-clause-holds
returns-clause-holds c =
    let ring = c.args.context.now.ring.now in
    let plan = c.args.context.now.plan.now in
    let O = order c.args.context.now in
    let new = c.note_numbers.new.missed in
    on_ok_weaker c.note_numbers.result
    (λ (h : (n : ℕ) → has n c.as_slice.result.now ≡ true → HoldBut new (clauses_at (step_clauses ring plan O c.args.partition) plan n)).
    all-noted ring plan O new c.args.partition c.in_ok-numbers.numbers.items c.in_ok-numbers.ensures.ok
    (λ n is. h n (subst (λ (ns : List ℕ). has n ns ≡ true) (sym c.as_slice.ensures.value) is))) c.note_numbers.ensures.holds

pub returns-clause-clean : goal.returns-clause-clean
returns-clause-clean c =
    let ring = c.args.context.now.ring.now in
    let plan = c.args.context.now.plan.now in
    let O = order c.args.context.now in
    let f = step_clauses ring plan O c.args.partition in
    let listed = ap (λ (ns : List ℕ). first_failing (clauses_of f plan ns)) c.as_slice.ensures.value in
    let same = listed ∙ concerned-enough ring plan c.args.partition c.in_ok-numbers.numbers.items c.in_ok-numbers.ensures.ok O in
    on_ok_weaker c.note_numbers.result
    (λ (h : first_failing (clauses_of f plan c.as_slice.result.now) ≡ None → c.note_numbers.new.missed ≡ c.args.missed.now). λ none. h (same ∙ none))
    c.note_numbers.ensures.clean
