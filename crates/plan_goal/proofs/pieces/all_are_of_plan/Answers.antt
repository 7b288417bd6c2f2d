use Rattle.std.proofs.Common.{below_more, inl, inr, length, arith}
use Rattle.std.proofs.lemmas.Bool.{cases_lt}
use Rattle.plan_goal.proofs.InCuts.{none_beyond}
use Rattle.plan_goal.proofs.pieces.all_are_of_plan.Goals as goal

pub windows-preserved : goal.windows-preserved
windows-preserved c = below_more _ _ c.windows.invariant (c.is_window_of_plan.ensures c.if-not-is_window_of_plan.false)

pub returns : goal.returns
returns c = λ t k i h. elim (cases_lt k (length c.args.pieces.now.plans.items)) [
  | inl l ↦ c.windows.invariant k (omega (arith, c.windows-test.false)) i h
  | inr l ↦ absurd (none_beyond c.args.pieces.now.plans.items k i (omega arith) h)
]
