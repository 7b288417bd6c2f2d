use Rattle.std.proofs.Common.{◌≡◌, ℕ, ◌+◌, ◌-◌, ◌<◌, ◌∙◌, List, subst, arith, None}
use Rattle.std.proofs.lemmas.Result.{err_from_is_err_and}
use Rattle.plan_order.specs.Facts.{is_ordered}
use Rattle.plan_stage.specs.Clauses.{Guard, first_failing, below}
use Rattle.plan_stage.specs.Partition.{partition_clauses}
use Rattle.plan_stage.proofs.Below.{below-none, below-then, below-at}
use Rattle.plan_check.proofs.shares.check_share.Goals as goal

pub loop-partition-init : goal.loop-partition-init
loop-partition-init c =
    let none : c.args.from - c.args.from ≡ 0 = omega arith in
    let f : ℕ → List Guard = λ p. partition_clauses c.args.context.now.ring.now c.args.context.now.plan.now (is_ordered c.args.context.now.plan.now c.args.context.now.facts.now) (c.args.from + p) in
    (rw none (below-none f), omega arith)

pub loop-partition-preserved : goal.loop-partition-preserved
loop-partition-preserved c =
    let from = c.args.from in
    let partition = c.loop-partition.partition in
    let C : ℕ → List Guard = partition_clauses c.args.context.now.ring.now c.args.context.now.plan.now (is_ordered c.args.context.now.plan.now c.args.context.now.facts.now) in
    let more : partition + 1 - from ≡ partition - from + 1 = omega arith in
    let here : from + (partition - from) ≡ partition = omega arith in
    (rw more (below-then (λ p. C (from + p)) (partition - from) c.loop-partition.invariant.0 ∙ rw here c.in_ok-check_partition.ensures), omega arith)

pub returns-in_err-check_partition : goal.returns-in_err-check_partition
returns-in_err-check_partition c =
    let from = c.args.from in
    let partition = c.loop-partition.partition in
    let C : ℕ → List Guard = partition_clauses c.args.context.now.ring.now c.args.context.now.plan.now (is_ordered c.args.context.now.plan.now c.args.context.now.facts.now) in
    let here : from + (partition - from) ≡ partition = omega arith in
    let within : partition - from < c.args.to - from = omega arith in
    let p = err_from_is_err_and c.from_residual.result c.from_residual.ensures.1 in
    rw (p.1, p.2) (λ ne. below-at (λ p. C (from + p)) c.in_err-check_partition.field-0.0 (partition - from) (c.args.to - from) c.loop-partition.invariant.0 within (rw here (c.in_err-check_partition.ensures ne)))

pub returns : goal.returns
returns c =
    let from = c.args.from in
    let C : ℕ → List Guard = partition_clauses c.args.context.now.ring.now c.args.context.now.plan.now (is_ordered c.args.context.now.plan.now c.args.context.now.facts.now) in
    let end : c.loop-partition.partition - from ≡ c.args.to - from = omega (arith, c.loop-partition.invariant.1) in
    subst (λ (n : ℕ). first_failing (below (λ p. C (from + p)) n) ≡ None) end c.loop-partition.invariant.0
