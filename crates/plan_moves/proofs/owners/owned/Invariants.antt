use Rattle.std.proofs.Common.{◌≡◌, ℕ, ◌<◌, Some, length, take}
use Rattle.std.specs.Prelude.{slice_get}
use Rattle.plan_moves.specs.Owners.{CountsMore, owned_by}
use Rattle.plan_moves.proofs.owners.owned.Given as goal

abbrev pub invariant-loop-row : goal.invariant-loop-row
invariant-loop-row l = record {
  len : length l.counts.items ≡ l.nodes;
  each : (x : ℕ) → x < l.nodes → CountsMore (owned_by x (take l.row-index l.rows)) (Some 0) (slice_get l.counts.items x);
}
