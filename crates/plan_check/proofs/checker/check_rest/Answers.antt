use Rattle.std.proofs.Common.{List, length}
use Rattle.std.proofs.lemmas.Result.{err_from_is_err_and}
use Rattle.plan_order.specs.Facts.{is_ordered}
use Rattle.plan_stage.specs.Clauses.{Guard, below}
use Rattle.plan_stage.specs.Partition.{partition_clauses}
use Rattle.plan_cover.specs.Clauses.{node_clauses}
use Rattle.plan_stage.proofs.Partitions.{gives-behind, gives-front}
use Rattle.plan_check.proofs.checker.check_rest.Goals as goal

pub returns-in_err-found-clause-first : goal.returns-in_err-found-clause-first
returns-in_err-found-clause-first c =
    let ring = c.args.context.now.ring.now in
    let plan = c.args.context.now.plan.now in
    let O = is_ordered plan c.args.context.now.facts.now in
    let nodes : List Guard = below (λ x. node_clauses ring plan c.args.cert.now O (record { 0 = x })) (length ring.nodes) in
    let p = err_from_is_err_and c.from_residual.result c.from_residual.ensures.1 in
    let given = rw c.in_err-found.was at c.requires.found in
    rw (p.1, p.2) (gives-front c.in_err-found.field-0.0 (below (partition_clauses ring plan O) ring.q) nodes given)

pub returns-clause-first : goal.returns-clause-first
returns-clause-first c =
    let ring = c.args.context.now.ring.now in
    let plan = c.args.context.now.plan.now in
    let O = is_ordered plan c.args.context.now.facts.now in
    let nodes : List Guard = below (λ x. node_clauses ring plan c.args.cert.now O (record { 0 = x })) (length ring.nodes) in
    let given = rw c.in_ok-found.was at c.requires.found in
    gives-behind c.check_nodes.result (below (partition_clauses ring plan O) ring.q) nodes given c.check_nodes.ensures
