use Rattle.std.proofs.Common.{ℕ, ◌<◌}
use Rattle.plan_runs.specs.World.{slot_at}
use Rattle.plan_around.specs.Alike.{InBoth, NodesAlike}
use Rattle.plan_around.proofs.alike.are_nodes_alike.Given as goal

abbrev pub invariant-loop-partition : goal.invariant-loop-partition
invariant-loop-partition l = (p : ℕ) → p < l.partition → (i : ℕ) → i < l.slots → InBoth l.a l.b (λ r old w s new u. NodesAlike l.returns.back l.returns.left.now r old w s new u (slot_at p i))
