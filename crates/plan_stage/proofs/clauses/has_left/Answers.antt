use Rattle.std.proofs.Common.{◌≡◌, ℕ, suc, ◌+◌, ◌-◌, ◌<◌, Bool, true, false, sym, subst, ◌∙◌, arith, eq-eqb, ne_eqb}
use Rattle.std.specs.Prelude.{◌||◌, ◌==◌}
use Rattle.std.proofs.lemmas.Bool.{or_left, or_right}
use Rattle.plan_order.specs.Order.{order}
use Rattle.plan_stage.specs.Each.{each_below, sibling}
use Rattle.plan_stage.specs.Partition.{has_left_slot}
use Rattle.plan_stage.proofs.Asking.{below-more, below-fails, left-is}
use Rattle.plan_stage.proofs.clauses.has_left.Goals.{else-index-slot-via-then-index-slot+else-not-has_left_at, else-index-slot-via-else-index-slot}
use Rattle.plan_stage.proofs.clauses.has_left.Goals as goal

pub returns-then-not-has_left_at : goal.returns-then-not-has_left_at
returns-then-not-has_left_at c =
    let ring = c.args.context.now.ring.now in
    let O : ℕ → ℕ → Bool = order c.args.context.now in
    let k = c.loop-index.index in
    let l : k < ring.n = omega arith in
    let f : ℕ → Bool = λ j. (j == c.args.slot.index) || has_left_slot ring c.args.context.now.plan.now O c.args.number (sibling c.args.slot j) c.args.node in
    let same = left-is ring c.args.context.now.plan.now O c.args.number c.args.slot.partition k c.args.node c.args.holdings.now c.requires l in
    let other : (k == c.args.slot.index) ≡ false = ne_eqb k c.args.slot.index c.if-index-slot.true in
    let e : f k ≡ false = rw other (sym same ∙ sym c.has_left_at.ensures ∙ c.if-not-has_left_at.true) in
    let z : (ring.n - suc k) + suc k ≡ ring.n = omega arith in
    sym (subst (λ (n : ℕ). each_below n f ≡ false) z (below-fails f k (ring.n - suc k) e))

pub loop-index-preserved : goal.loop-index-preserved
loop-index-preserved c =
    let ring = c.args.context.now.ring.now in
    let plan = c.args.context.now.plan.now in
    let k = c.loop-index.index in
    let l : k < ring.n = omega arith in
    let left : ℕ → Bool = λ j. has_left_slot ring plan (order c.args.context.now) c.args.number (sibling c.args.slot j) c.args.node in
    let f : ℕ → Bool = λ j. (j == c.args.slot.index) || left j in
    let same = left-is ring plan (order c.args.context.now) c.args.number c.args.slot.partition k c.args.node c.args.holdings.now c.requires l in
    let e : f k ≡ true = elim c.else-index-slot.branch [
      | else-index-slot-via-then-index-slot+else-not-has_left_at w ↦ or_right (k == c.args.slot.index) (left k) (sym same ∙ sym w.has_left_at.ensures ∙ w.if-not-has_left_at.false)
      | else-index-slot-via-else-index-slot w ↦ or_left (k == c.args.slot.index) (left k) (eq-eqb k c.args.slot.index w.if-index-slot.false)
    ] in
    below-more f k c.loop-index.invariant e
