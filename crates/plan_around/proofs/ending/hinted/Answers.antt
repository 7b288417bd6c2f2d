use Rattle.std.proofs.Common.{◌≡◌, ℕ, inl, inr, subst, sym, true}
use Rattle.plan_runs.specs.World.{keeps, slot_at}
use Rattle.plan_around.proofs.ending.hinted.Goals as goal

pub loop-number-preserved : goal.loop-number-preserved
loop-number-preserved c = λ p f w m. elim (c.mark_if_dead.ensures p f) [
  | inl h ↦ (
    c.in-Some.slot.index,
    c.in-Some.node,
    h.1,
    subst (λ (q : ℕ). keeps w c.in-Some.node.0 (slot_at q c.in-Some.slot.index) ≡ true) (sym h.0) (c.in-Some.ensures.some w m),
  )
  | inr h ↦ c.loop-number.invariant p h w m
]
