use Rattle.std.proofs.Common.{◌≡◌, length}
use Rattle.plan_order.specs.Paths.{are_links}
use Rattle.plan_order.proofs.path.verify_fact.Given as goal

abbrev pub invariant-links : goal.invariant-links
invariant-links l = are_links l.plan l.rest ≡ are_links l.plan l.path

abbrev pub decreases-links : goal.decreases-links
decreases-links l = length l.rest
