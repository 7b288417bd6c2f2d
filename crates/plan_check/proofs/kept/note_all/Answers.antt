use Rattle.std.proofs.Common.{ℕ, ◌<◌, ◌∙◌, refl, sym, below_more, arith}
use Rattle.plan_order.specs.Order.{order}
use Rattle.plan_stage.specs.Missed.{HoldsBut}
use Rattle.plan_stage.specs.Partition.{partition_clauses}
use Rattle.plan_stage.proofs.Below.{below-met}
use Rattle.plan_check.proofs.Keeping.{holds_wider}
use Rattle.plan_check.proofs.kept.note_all.Goals as goal

pub loop-partition-preserved : goal.loop-partition-preserved
loop-partition-preserved c =
    let ring = c.args.context.now.ring.now in
    let plan = c.args.context.now.plan.now in
    let O = order c.args.context.now in
    let new = c.note_partition.new.missed in
    let before = c.loop-partition.invariant in
    let l : c.loop-partition.partition < ring.q = omega arith in
    record {
      holds = λ p l. below_more (λ (i : ℕ). HoldsBut new ring plan O i) c.loop-partition.partition
          (λ i m. holds_wider c.loop-partition.missed new ring plan O i c.note_partition.ensures.stays (before.holds i m))
          (c.in_ok-note_partition.ensures.holds c.if-not-branch.false) p l;
      clean = λ none. (c.in_ok-note_partition.ensures.clean (below-met (partition_clauses ring plan O) ring.q none c.loop-partition.partition l)).1 ∙ before.clean none;
    }

pub returns-clause-holds : goal.returns-clause-holds
returns-clause-holds c = λ e p l. c.loop-partition.invariant.holds p (let a = c.loop-partition-test.false in let b = c.q-partition-end.ensures.value in omega arith)

pub returns-clause-clean : goal.returns-clause-clean
returns-clause-clean c = λ none. (refl, c.loop-partition.invariant.clean none)

pub returns-then-not-branch-clause-clean : goal.returns-then-not-branch-clause-clean
returns-then-not-branch-clause-clean c =
    let ring = c.args.context.now.ring.now in
    let plan = c.args.context.now.plan.now in
    let O = order c.args.context.now in
    let l : c.loop-partition.partition < ring.q = omega arith in
    λ none. absurd (
    let here = c.in_ok-note_partition.ensures.clean (below-met (partition_clauses ring plan O) ring.q none c.loop-partition.partition l) in
    let e = sym here.0 ∙ c.if-not-branch.true in
    cc)
