use Rattle.std.proofs.Common.{rules, ◌≡◌, ◌∙◌, ap, ℕ, ◌<◌, length, arith, List, Bool}
use Rattle.std.proofs.lemmas.Result.{err_from_is_err_and}
use Rattle.ring_names.specs.declared.refusal.Refusal.{Refusal}
use Rattle.ring_table.specs.declared.node.Node.{Node}
use Rattle.plan_order.specs.Facts.{is_ordered}
use Rattle.plan_stage.proofs.Below.{below-none, below-then, below-at}
use Rattle.plan_cover.specs.Clauses.{node_clauses}
use Rattle.plan_cover.proofs.check.check_nodes.Goals as goal

pub loop-x-init : goal.loop-x-init
loop-x-init c = record { first = below-none (λ x. node_clauses c.args.ring.now c.args.plan.now c.args.cert.now (is_ordered c.args.plan.now c.args.facts.now) (record { 0 = x })); places = (search rules) }

pub loop-x-preserved : goal.loop-x-preserved
loop-x-preserved c = record {
  first = below-then (λ x. node_clauses c.args.ring.now c.args.plan.now c.args.cert.now (is_ordered c.args.plan.now c.args.facts.now) (record { 0 = x })) c.loop-x.x c.loop-x.invariant.first ∙ c.in_ok-check_with.ensures.first;
  places = c.in_ok-check_with.ensures.places;
}

pub returns-in_err-check_with : goal.returns-in_err-check_with
returns-in_err-check_with c =
    let clauses : ℕ → List (Bool × Refusal) = λ x. node_clauses c.args.ring.now c.args.plan.now c.args.cert.now (is_ordered c.args.plan.now c.args.facts.now) (record { 0 = x }) in
    let p = err_from_is_err_and c.from_residual-in_err-check_with.result c.from_residual-in_err-check_with.ensures.1 in
    let v : length c.nodes.result.now ≡ length c.args.ring.now.nodes = ap (λ (ns : List Node). length ns) c.nodes.ensures.value in
    let l : c.loop-x.x < length c.args.ring.now.nodes = omega arith in
    rw (p.1, p.2) (λ ne. below-at clauses c.in_err-check_with.field-0.0 c.loop-x.x (length c.args.ring.now.nodes) c.loop-x.invariant.first l (c.in_err-check_with.ensures.first ne))
