use Rattle.std.proofs.Common.{◌≡◌, length, map}
use Rattle.plan_order.specs.Order.{order}
use Rattle.plan_stage.specs.Clauses.{first_failing}
use Rattle.plan_cover.specs.Looking.Guards.{chain_guard}
use Rattle.plan_cover.specs.Looking.Places.{is_marked}
use Rattle.plan_cover.proofs.linked.check_chains.Given as goal

abbrev pub invariant-chains : goal.invariant-chains
invariant-chains l = first_failing (map (chain_guard l.context.ring.now l.node (is_marked l.marks) (order l.context) l.chains) l.rest) ≡ first_failing (map (chain_guard l.context.ring.now l.node (is_marked l.marks) (order l.context) l.chains) l.numbers)

abbrev pub decreases-chains : goal.decreases-chains
decreases-chains l = length l.rest
