use Rattle.std.proofs.Common.{List}
use Rattle.std.proofs.lemmas.Result.{err_from_is_err_and}
use Rattle.plan_order.specs.Order.{order}
use Rattle.plan_stage.specs.Clauses.{Guard, below}
use Rattle.plan_stage.specs.Partition.{slot_clauses, step_clauses, steps_clauses}
use Rattle.plan_stage.proofs.Partitions.{staged-from, gives-behind, gives-front}
use Rattle.plan_stage.proofs.check.check_in.Goals as goal

pub returns-in_err-check_slots : goal.returns-in_err-check_slots
returns-in_err-check_slots c =
    let ring = c.args.context.now.ring.now in
    let plan = c.args.context.now.plan.now in
    let O = order c.args.context.now in
    let slots : List Guard = below (λ i. slot_clauses ring plan O (record { partition = c.args.partition; index = i })) ring.n in
    let p = err_from_is_err_and c.from_residual.result c.from_residual.ensures.1 in
    rw (p.1, p.2) (gives-front c.in_err-check_slots.field-0.0 slots (steps_clauses (step_clauses ring plan O c.args.partition) 0 plan) c.in_err-check_slots.ensures)

pub check_steps-requires-clause-staged : goal.check_steps-requires-clause-staged
check_steps-requires-clause-staged c = staged-from c.args.context.now.ring.now c.args.context.now.plan.now (order c.args.context.now) c.args.partition c.in_ok-check_slots.ensures

pub returns : goal.returns
returns c =
    let ring = c.args.context.now.ring.now in
    let plan = c.args.context.now.plan.now in
    let O = order c.args.context.now in
    let slots : List Guard = below (λ i. slot_clauses ring plan O (record { partition = c.args.partition; index = i })) ring.n in
    gives-behind c.check_steps.result slots (steps_clauses (step_clauses ring plan O c.args.partition) 0 plan) c.in_ok-check_slots.ensures c.check_steps.ensures
