use Rattle.std.proofs.Common.{◌≡◌, ℕ, ◌<◌, ◌∙◌, subst, arith, None, List, Bool}
use Rattle.std.proofs.lemmas.Result.{err_from_is_err_and}
use Rattle.ring_names.specs.declared.refusal.Refusal.{Refusal}
use Rattle.plan_order.specs.Order.{order}
use Rattle.plan_stage.specs.Clauses.{first_failing, below}
use Rattle.plan_stage.specs.Partition.{slot_clauses}
use Rattle.plan_stage.proofs.Below.{below-none, below-then, below-at}
use Rattle.plan_stage.proofs.check.check_slots.Goals as goal

pub loop-index-init : goal.loop-index-init
loop-index-init c = below-none (λ i. slot_clauses c.args.context.now.ring.now c.args.context.now.plan.now (order c.args.context.now) (record { partition = c.args.partition; index = i }))

pub loop-index-preserved : goal.loop-index-preserved
loop-index-preserved c =
    below-then (λ i. slot_clauses c.args.context.now.ring.now c.args.context.now.plan.now (order c.args.context.now) (record { partition = c.args.partition; index = i })) c.loop-index.index c.loop-index.invariant ∙ c.in_ok-check_slot.ensures

pub returns-in_err-check_slot : goal.returns-in_err-check_slot
returns-in_err-check_slot c =
    let clauses : ℕ → List (Bool × Refusal) = λ i. slot_clauses c.args.context.now.ring.now c.args.context.now.plan.now (order c.args.context.now) (record { partition = c.args.partition; index = i }) in
    let p = err_from_is_err_and c.from_residual.result c.from_residual.ensures.1 in
    let l : c.loop-index.index < c.args.context.now.ring.now.n = omega arith in
    rw (p.1, p.2) (λ ne. below-at clauses c.in_err-check_slot.field-0.0 c.loop-index.index c.args.context.now.ring.now.n c.loop-index.invariant l (c.in_err-check_slot.ensures ne))

pub returns : goal.returns
returns c =
    let clauses : ℕ → List (Bool × Refusal) = λ i. slot_clauses c.args.context.now.ring.now c.args.context.now.plan.now (order c.args.context.now) (record { partition = c.args.partition; index = i }) in
    let end : c.loop-index.index ≡ c.args.context.now.ring.now.n = omega arith in
    subst (λ (n : ℕ). first_failing (below clauses n) ≡ None) end c.loop-index.invariant
