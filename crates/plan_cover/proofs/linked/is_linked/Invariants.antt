use Rattle.std.proofs.Common.{◌≡◌, length}
use Rattle.plan_order.specs.Order.{order}
use Rattle.plan_cover.specs.Clauses.{is_linked}
use Rattle.plan_cover.specs.Looking.Places.{is_marked}
use Rattle.plan_cover.proofs.linked.is_linked.Given as goal

abbrev pub invariant-links : goal.invariant-links
invariant-links l = is_linked (is_marked l.marks l.side) (order l.context) l.rest ≡ is_linked (is_marked l.marks l.side) (order l.context) l.steps

abbrev pub decreases-links : goal.decreases-links
decreases-links l = length l.rest
