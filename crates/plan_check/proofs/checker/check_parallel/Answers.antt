use Rattle.std.proofs.Common.{inl, inr}
use Rattle.plan_check.proofs.Spent.{spent-is-never-first}
use Rattle.plan_check.proofs.checker.check_parallel.Goals as goal

pub returns-in-Some-Err-clause-stopped : goal.returns-in-Some-Err-clause-stopped
returns-in-Some-Err-clause-stopped g c = λ t. let given = rw c.in-Some-Err.field-0-is at c.in-Some-Err.ensures.first in absurd (spent-is-never-first c.args.ring c.args.plan c.args.cert.now c.in-Some-Err.refusal t given)

pub returns-in-Some-Err-clause-late : goal.returns-in-Some-Err-clause-late
returns-in-Some-Err-clause-late g c = λ o. elim o [
  | inl m ↦ (let late = rw c.in-Some-Err.field-0-is at c.in-Some-Err.ensures.late in late m)
  | inr t ↦ (let given = rw c.in-Some-Err.field-0-is at c.in-Some-Err.ensures.first in absurd (spent-is-never-first c.args.ring c.args.plan c.args.cert.now c.in-Some-Err.refusal t given))
]
