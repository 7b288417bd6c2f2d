use Rattle.std.proofs.Common.{◌≡◌, ◌+◌, inl, inr, ℕ, Some, subst, arith}
use Rattle.ring_names.specs.Noted.{noted_at}
use Rattle.ring_names.proofs.Finding.{below_next}
use Rattle.ring_names.proofs.noted.find.Goals as goal

pub loop-near-init : goal.loop-near-init
loop-near-init c = λ near n h at is. absurd (omega (arith, h))

pub loop-near-preserved : goal.loop-near-preserved
loop-near-preserved c = λ near n h at is. elim (below_next near c.loop-near.near h) [
  | inl less ↦ c.loop-near.invariant near n less at is
  | inr same ↦ c.in_default.ensures.none n (subst (λ (x : ℕ). noted_at c.args.table.now (c.first_place-first.result + x) c.sum_of-sum.result ≡ Some n) same at) is
]

pub returns-clause-none : goal.returns-clause-none
returns-clause-none c = λ n noted is.
    let at : noted_at c.args.table.now (c.first_place-first.result + noted.0) c.sum_of-sum.result ≡ Some n = rw (c.first_place-first.ensures, c.sum_of-sum.ensures) noted.2 in
    c.loop-near.invariant noted.0 n (omega (arith, noted.1, c.loop-near-test.false)) at is
