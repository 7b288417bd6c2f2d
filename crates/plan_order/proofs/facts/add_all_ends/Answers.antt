use Rattle.plan_order.specs.Facts.{has_ends}
use Rattle.plan_order.proofs.Left.{led}
use Rattle.plan_order.proofs.facts.add_all_ends.Goals as goal

pub loop-place-preserved : goal.loop-place-preserved
loop-place-preserved c = λ a b. led c.args.paths.now c.loop-place.place c.row.result.now c.row.ensures a b (has_ends a b c.loop-place.ends.items) (has_ends a b c.add_ends.new.ends.items) _ (c.loop-place.invariant a b) (c.in_ok-add_ends.ensures.ok a b)
