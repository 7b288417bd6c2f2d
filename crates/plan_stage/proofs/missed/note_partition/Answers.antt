use Rattle.std.proofs.Common.{◌∙◌, List, refl, sym}
use Rattle.plan_order.specs.Order.{order}
use Rattle.plan_stage.specs.Clauses.{Guard, below}
use Rattle.plan_stage.specs.Partition.{slot_clauses, step_clauses, steps_clauses}
use Rattle.plan_stage.proofs.Below.{first-kept, first-split}
use Rattle.plan_stage.proofs.Partitions.{staged-from}
use Rattle.plan_stage.proofs.missed.note_partition.Goals as goal

pub note_steps-requires-clause-staged : goal.note_steps-requires-clause-staged
note_steps-requires-clause-staged c = staged-from c.args.context.now.ring.now c.args.context.now.plan.now (order c.args.context.now) c.args.partition c.in-Ok.ensures

pub returns-in_ok-note_steps-in-Ok-clause-clean : goal.returns-in_ok-note_steps-in-Ok-clause-clean
returns-in_ok-note_steps-in-Ok-clause-clean c =
    let ring = c.args.context.now.ring.now in
    let plan = c.args.context.now.plan.now in
    let O = order c.args.context.now in
    let slots : List Guard = below (λ i. slot_clauses ring plan O (record { partition = c.args.partition; index = i })) ring.n in
    λ none. (refl, c.in_ok-note_steps-in-Ok.ensures.clean (first-split slots (steps_clauses (step_clauses ring plan O c.args.partition) 0 plan) none).1)

pub returns-in_default-clause-clean : goal.returns-in_default-clause-clean
returns-in_default-clause-clean c =
    let ring = c.args.context.now.ring.now in
    let plan = c.args.context.now.plan.now in
    let O = order c.args.context.now in
    let slots : List Guard = below (λ i. slot_clauses ring plan O (record { partition = c.args.partition; index = i })) ring.n in
    λ none. absurd (
    let fails = first-kept slots (steps_clauses (step_clauses ring plan O c.args.partition) 0 plan) c.in-Err.refusal (c.in-Err.ensures c.in_default.not-OutOfMemory) in
    let e = sym none ∙ fails in
    cc)
