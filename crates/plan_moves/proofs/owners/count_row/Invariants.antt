use Rattle.std.proofs.Common.{◌≡◌, ℕ, ◌==◌, length, take}
use Rattle.std.specs.Prelude.{slice_get, count_by}
use Rattle.plan_moves.specs.Owners.{CountsMore}
use Rattle.plan_moves.proofs.owners.count_row.Given as goal

abbrev pub invariant-loop-node : goal.invariant-loop-node
invariant-loop-node l = record {
  counts : (x : ℕ) → CountsMore (count_by (λ y. y.0 == x) (take l.node-index l.row)) (slice_get l.fn.counts.items x) (slice_get l.counts.items x);
  len : length l.counts.items ≡ length l.fn.counts.items;
}
