use Rattle.std.proofs.Common.{ℕ, ◌<◌}
use Rattle.plan_runs.specs.World.{slot_at}
use Rattle.plan_around.specs.Alike.{InBoth, NodesAlike}
use Rattle.plan_around.proofs.alike.is_row_alike.Given as goal

abbrev pub invariant-loop-index : goal.invariant-loop-index
invariant-loop-index l = (i : ℕ) → i < l.index → InBoth l.a l.b (λ r old w s new u. NodesAlike l.returns.back l.returns.left.now r old w s new u (slot_at l.partition i))
