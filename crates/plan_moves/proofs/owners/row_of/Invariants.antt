use Rattle.std.proofs.Common.{◌≡◌}
use Rattle.plan_cover.specs.Looking.Serving.{serving_at}
use Rattle.plan_moves.specs.Owners.{row_by}
use Rattle.plan_moves.proofs.owners.row_of.Given as goal

abbrev pub invariant-loop-index : goal.invariant-loop-index
invariant-loop-index l = l.row.items ≡ row_by (serving_at l.ring l.present) l.partition l.index
