use Rattle.std.proofs.Common.{ℕ, inl, inr, sym, subst}
use Rattle.plan_around.specs.Alike.{InBoth, PutAlike}
use Rattle.plan_around.proofs.alike.mark_alike.Goals as goal

pub returns : goal.returns
returns c = λ t v f. elim (c.mark.ensures v f) [
  | inl h ↦ subst (λ (n : ℕ). InBoth c.args.it.now.a.now c.args.it.now.b.now (λ r old w s new u. PutAlike r old w s new u n)) (sym h) (c.is_put_alike.ensures c.if-not-is_put_alike.false)
  | inr h ↦ c.requires.marks v h
]
