use Rattle.std.proofs.Common.{◌≡◌, true, slice_index}
use Rattle.plan_goal.specs.Sized.{holds_below, may_row, row_at}
use Rattle.plan_goal.proofs.sized.may_rows.Given as goal

abbrev pub invariant-rows : goal.invariant-rows
invariant-rows l = holds_below (λ p. may_row l.leavers l.takers (slice_index l.sizes p) (row_at l.before p) (row_at l.after p)) l.partition ≡ true
