use Rattle.std.proofs.Common.{ℕ, ◌∙◌, ap, List}
use Rattle.plan_order.specs.Order.{order}
use Rattle.plan_stage.specs.Clauses.{first_failing}
use Rattle.plan_stage.specs.Partition.{step_clauses, steps_clauses}
use Rattle.plan_stage.specs.Looking.Looked.{clauses_of}
use Rattle.plan_stage.proofs.Looking.{concerned-enough}
use Rattle.plan_stage.proofs.Partitions.{gives-same}
use Rattle.plan_stage.proofs.check.check_steps.Goals as goal

pub returns : goal.returns
returns c =
    let ring = c.args.context.now.ring.now in
    let plan = c.args.context.now.plan.now in
    let p = c.args.partition in
    let O = order c.args.context.now in
    let f = step_clauses ring plan O p in
    let listed = ap (λ (ns : List ℕ). first_failing (clauses_of f plan ns)) c.as_slice.ensures.value in
    gives-same c.check_numbers.result (clauses_of f plan c.as_slice.result.now) (steps_clauses f 0 plan) (listed ∙ concerned-enough ring plan p c.in_ok-numbers.numbers.items c.in_ok-numbers.ensures.ok O) c.check_numbers.ensures
