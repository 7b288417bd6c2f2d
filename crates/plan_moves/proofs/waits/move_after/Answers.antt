use Rattle.std.proofs.Common.{◌∙◌, get_or}
use Rattle.plan_moves.proofs.Moved.{after-is, awaited-more, found-within, all-awaited}
use Rattle.plan_moves.proofs.waits.move_after.Goals as goal

pub loop-step-preserved : goal.loop-step-preserved
loop-step-preserved c =
    let plan = c.args.plan.now in
    let own = c.args.own.now in
    let found = c.loop-step.found.keys in
    let new = c.add_waits.new.found.keys in
    let i = c.loop-step.step-index in
    record {
      waits = λ n. awaited-more plan own found new c.deps.result.now i n c.loop-step-test.true c.deps.ensures.value (c.loop-step.invariant.waits n) (c.in_ok-add_waits.ensures.ok n);
      within = λ n. found-within plan own found new c.deps.result.now (get_or own i 0) n c.deps.ensures.valid c.deps.ensures.value (c.loop-step.invariant.within n) (c.in_ok-add_waits.ensures.ok n);
    }

pub returns-clause-ok : goal.returns-clause-ok
returns-clause-ok c =
    let plan = c.args.plan.now in
    let own = c.args.own.now in
    let found = c.loop-step.found.keys in
    c.in_ok-in_order.ensures.value
    ∙ after-is plan own found c.in_order.ensures.ascending c.loop-step.invariant.within (λ n. all-awaited plan own found c.loop-step.step-index n c.loop-step-test.false (c.loop-step.invariant.waits n))
