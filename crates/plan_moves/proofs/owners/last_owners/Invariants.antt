use Rattle.std.proofs.Common.{◌≡◌}
use Rattle.plan_cover.specs.Looking.Serving.{serving_at}
use Rattle.plan_moves.specs.Owners.{rows_by}
use Rattle.plan_moves.proofs.owners.last_owners.Given as goal

abbrev pub invariant-loop-partition : goal.invariant-loop-partition
invariant-loop-partition l = l.rows.items ≡ rows_by (serving_at l.ring l.present) l.ring.n l.partition
