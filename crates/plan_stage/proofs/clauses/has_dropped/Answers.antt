use Rattle.std.proofs.Common.{◌≡◌, ℕ, suc, ◌+◌, ◌-◌, ◌<◌, Bool, true, false, sym, subst, ◌∙◌, arith}
use Rattle.plan_order.specs.Order.{order}
use Rattle.plan_stage.specs.Each.{each_below, slot_in}
use Rattle.plan_stage.specs.Partition.{has_dropped_slot}
use Rattle.plan_stage.proofs.Asking.{below-more, below-fails, dropped-is}
use Rattle.plan_stage.proofs.clauses.has_dropped.Goals as goal

pub returns-then-not-is_dropped_at : goal.returns-then-not-is_dropped_at
returns-then-not-is_dropped_at c =
    let ring = c.args.context.now.ring.now in
    let O : ℕ → ℕ → Bool = order c.args.context.now in
    let k = c.loop-index.index in
    let l : k < ring.n = omega arith in
    let f : ℕ → Bool = λ j. has_dropped_slot ring c.args.context.now.plan.now O c.args.number (slot_in c.args.partition j) c.args.node in
    let same = dropped-is ring c.args.context.now.plan.now O c.args.number c.args.partition k c.args.node c.args.holdings.now c.requires l in
    let e : f k ≡ false = sym same ∙ sym c.is_dropped_at.ensures ∙ c.if-not-is_dropped_at.true in
    let z : (ring.n - suc k) + suc k ≡ ring.n = omega arith in
    sym (subst (λ (n : ℕ). each_below n f ≡ false) z (below-fails f k (ring.n - suc k) e))

pub loop-index-preserved : goal.loop-index-preserved
loop-index-preserved c =
    let ring = c.args.context.now.ring.now in
    let O : ℕ → ℕ → Bool = order c.args.context.now in
    let k = c.loop-index.index in
    let l : k < ring.n = omega arith in
    let f : ℕ → Bool = λ j. has_dropped_slot ring c.args.context.now.plan.now O c.args.number (slot_in c.args.partition j) c.args.node in
    let same = dropped-is ring c.args.context.now.plan.now O c.args.number c.args.partition k c.args.node c.args.holdings.now c.requires l in
    let e : f k ≡ true = sym same ∙ sym c.is_dropped_at.ensures ∙ c.if-not-is_dropped_at.false in
    below-more f k c.loop-index.invariant e
