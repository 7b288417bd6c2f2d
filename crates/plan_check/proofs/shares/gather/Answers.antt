use Rattle.std.proofs.Common.{◌≡◌, ◌+◌, ◌<◌, ◌≤◌, ℕ, List, length, subst, arith}
use Rattle.plan_order.specs.Facts.{is_ordered}
use Rattle.plan_stage.specs.Clauses.{Guard, Gives, below}
use Rattle.plan_stage.specs.Partition.{partition_clauses}
use Rattle.plan_check.specs.Shares.{first_of}
use Rattle.plan_check.specs.declared.shares.ShareOutcome.TheVariants.{Stopped}
use Rattle.plan_check.proofs.Shared.{joined, below-next, first-grows, first-last, none-before, some-share}
use Rattle.plan_check.proofs.shares.gather.Goals as goal

pub loop-share-init : goal.loop-share-init
loop-share-init g c =
    let some = some-share c.args.by.now.workers c.args.context.now.ring.now.q in
    record {
      given = none-before (partition_clauses c.args.context.now.ring.now c.args.context.now.plan.now (is_ordered c.args.context.now.plan.now c.args.context.now.facts.now)) c.args.context.now.ring.now.q (length c.args.found.now) (rw c.requires.count some);
      passed = λ s l m. absurd (omega (arith, l));
    }

pub loop-share-preserved : goal.loop-share-preserved
loop-share-preserved g c =
    let q = c.args.context.now.ring.now.q in
    let m = length c.args.found.now in
    let s = c.loop-share.share in
    let C : ℕ → List Guard = partition_clauses c.args.context.now.ring.now c.args.context.now.plan.now (is_ordered c.args.context.now.plan.now c.args.context.now.facts.now) in
    let some = some-share c.args.by.now.workers q in
    let some' : 0 < m = rw c.requires.count some in
    let grows : first_of q m s ≤ first_of q m (s + 1) = first-grows q m s (s + 1) some' (omega arith) in
    let within : s < m = omega arith in
    let outcome = c.requires.outcomes s Stopped within in
    let told = rw c.in-Checked.is at outcome in
    record {
      given = rw c.and-first.ensures (joined C (first_of q m s) (first_of q m (s + 1)) grows c.loop-share.first c.in-Checked.next c.loop-share.invariant.given told.1);
      passed = below-next (λ (t : ℕ). g.G.Gate.must_refuse c.args.by.now.gate.now t (first_of q m t) → ⊥) s c.loop-share.invariant.passed told.0;
    }

pub returns-clause-first : goal.returns-clause-first
returns-clause-first g c =
    let q = c.args.context.now.ring.now.q in
    let m = length c.args.found.now in
    let C : ℕ → List Guard = partition_clauses c.args.context.now.ring.now c.args.context.now.plan.now (is_ordered c.args.context.now.plan.now c.args.context.now.facts.now) in
    let some = some-share c.args.by.now.workers q in
    let some' : 0 < m = rw c.requires.count some in
    let end : c.loop-share.share ≡ m = omega arith in
    let whole = first-last q m some' in
    subst (λ (n : ℕ). Gives c.loop-share.first (below C n)) whole (subst (λ (s : ℕ). Gives c.loop-share.first (below C (first_of q m s))) end c.loop-share.invariant.given)

pub returns-clause-passed : goal.returns-clause-passed
returns-clause-passed g c = λ must.
    let q = c.args.context.now.ring.now.q in
    let m = length c.args.found.now in
    let s = must.0 in
    let count = c.requires.count in
    let last : c.loop-share.share ≡ m = omega arith in
    let within : s < c.loop-share.share = rw (last, count) must.1 in
    c.loop-share.invariant.passed s within (rw count must.2)
