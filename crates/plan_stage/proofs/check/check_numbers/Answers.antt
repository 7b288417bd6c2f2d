use Rattle.std.proofs.lemmas.Result.{err_from_is_err_and}
use Rattle.plan_order.specs.Order.{order}
use Rattle.plan_stage.specs.Clauses.{first_failing}
use Rattle.plan_stage.specs.Partition.{step_clauses}
use Rattle.plan_stage.specs.Looking.Looked.{clauses_of}
use Rattle.plan_stage.proofs.Looking.{first-fails}
use Rattle.plan_stage.proofs.check.check_numbers.Goals as goal

pub returns-in_err-check_step : goal.returns-in_err-check_step
returns-in_err-check_step c =
    let f = step_clauses c.args.context.now.ring.now c.args.context.now.plan.now (order c.args.context.now) c.args.partition in
    let p = err_from_is_err_and c.from_residual.result c.from_residual.ensures.1 in
    rw (p.1, p.2) (λ ne. first-fails f c.args.context.now.plan.now c.in-Some.number.now c.numbers.rest.now c.in-Some.later.now (first_failing (clauses_of f c.args.context.now.plan.now c.args.numbers.now)) c.in_err-check_step.field-0.0 c.in-Some.ensures.cases.0 c.numbers.invariant.clauses (c.in_err-check_step.ensures ne))
