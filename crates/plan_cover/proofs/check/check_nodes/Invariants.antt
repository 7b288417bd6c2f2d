use Rattle.std.proofs.Common.{◌≡◌, None, length}
use Rattle.plan_order.specs.Facts.{is_ordered}
use Rattle.plan_stage.specs.Clauses.{first_failing, below}
use Rattle.plan_cover.specs.Clauses.{node_clauses}
use Rattle.plan_cover.specs.Looking.Places.{HasPlaces}
use Rattle.plan_cover.proofs.check.check_nodes.Given as goal

abbrev pub invariant-loop-x : goal.invariant-loop-x
invariant-loop-x l = record {
  first : first_failing (below (λ x. node_clauses l.ring l.plan l.cert (is_ordered l.plan l.facts) (record { 0 = x })) l.x) ≡ None;
  places : HasPlaces (length l.plan) l.marks;
}
