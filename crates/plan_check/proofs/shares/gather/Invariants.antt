use Rattle.std.proofs.Common.{◌<◌, ℕ, length}
use Rattle.plan_order.specs.Facts.{is_ordered}
use Rattle.plan_stage.specs.Clauses.{Gives, below}
use Rattle.plan_stage.specs.Partition.{partition_clauses}
use Rattle.plan_check.specs.Shares.{first_of}
use Rattle.plan_check.proofs.shares.gather.Given as goal

abbrev pub invariant-loop-share : goal.invariant-loop-share
invariant-loop-share g l = record {
  given : Gives l.first (below (partition_clauses l.context.ring.now l.context.plan.now (is_ordered l.context.plan.now l.context.facts.now)) (first_of l.context.ring.now.q (length l.found) l.share));
  passed : (s : ℕ) → s < l.share → g.G.Gate.must_refuse l.by.gate.now s (first_of l.context.ring.now.q (length l.found) s) → ⊥;
}
