use Rattle.std.proofs.Common.{◌∙◌, ℕ, ◌==◌, Some, take, sym, subst}
use Rattle.std.specs.Prelude.{slice_get, count_by}
use Rattle.plan_moves.specs.Owners.{CountsMore, owned_by}
use Rattle.plan_moves.proofs.Owning.{counts-then, owned-then}
use Rattle.plan_moves.proofs.owners.owned.Goals as goal

pub loop-row-preserved : goal.loop-row-preserved
loop-row-preserved c = record {
  len = c.count_row.ensures.len ∙ c.loop-row.invariant.len;
  each = λ x l.
      let front = take c.loop-row.row-index c.args.rows.now in
      let new = c.count_row.new.counts.items in
      subst (λ (k : ℕ). CountsMore k (Some 0) (slice_get new x)) (sym (owned-then x c.args.rows.now c.loop-row.row-index c.row-item.result c.as_slice.result.now c.loop-row-test.true (sym c.row-item.is ∙ sym c.as_slice.ensures)))
      (counts-then (owned_by x front) (count_by (λ y. y.0 == x) c.as_slice.result.now) (Some 0) (slice_get c.loop-row.counts.items x) (slice_get new x) (c.loop-row.invariant.each x l) (c.count_row.ensures.counts x));
}
