use Rattle.std.proofs.Common.{inl, inr, sym}
use Rattle.plan_around.proofs.ending.mark_target.Goals as goal

pub returns-in-Mirror : goal.returns-in-Mirror
returns-in-Mirror c = λ x f. elim (c.mark.ensures x f) [
  | inl h ↦ inl (c.in-Mirror.field-0, c.in-Mirror.node, c.in-Mirror.is, sym h)
  | inr h ↦ inr h
]
