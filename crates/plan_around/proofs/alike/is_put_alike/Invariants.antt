use Rattle.std.proofs.Common.{ℕ, ◌<◌}
use Rattle.plan_around.specs.Alike.{InBoth, MirroredAlike}
use Rattle.plan_around.proofs.alike.is_put_alike.Given as goal

abbrev pub invariant-loop-index : goal.invariant-loop-index
invariant-loop-index l = (i : ℕ) → i < l.index → InBoth l.it.a.now l.it.b.now (λ r old w s new u. MirroredAlike r old w s new u l.put i)
