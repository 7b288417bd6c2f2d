use Rattle.std.proofs.Common.{◌≡◌, ◌≤◌, max, None}
use Rattle.plan_order.specs.Facts.{is_ordered}
use Rattle.plan_stage.specs.Clauses.{first_failing}
use Rattle.plan_check.specs.Shares.{share_clauses}
use Rattle.plan_check.proofs.shares.check_share.Given as goal

abbrev pub invariant-loop-partition : goal.invariant-loop-partition
invariant-loop-partition l = (first_failing (share_clauses l.context.ring.now l.context.plan.now (is_ordered l.context.plan.now l.context.facts.now) l.from l.partition) ≡ None) × (l.partition ≤ max l.from l.to)
