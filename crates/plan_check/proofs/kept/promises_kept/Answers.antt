use Rattle.std.proofs.Common.{◌≡◌, ◌∙◌, false, List, length, subst, sym}
use Rattle.plan_order.specs.Facts.{is_ordered}
use Rattle.plan_cover.specs.Clauses.{node_clauses}
use Rattle.plan_stage.specs.Clauses.{Guard, below}
use Rattle.plan_stage.specs.Missed.{misses}
use Rattle.plan_stage.specs.Partition.{partition_clauses}
use Rattle.plan_stage.specs.declared.missed.Missed.{Missed}
use Rattle.plan_stage.proofs.Below.{first-split}
use Rattle.plan_check.specs.Certified.{ordered_by}
use Rattle.plan_check.specs.First.{fact_clauses, rest_clauses}
use Rattle.plan_check.proofs.Checked.{rest-alike}
use Rattle.plan_check.proofs.kept.promises_kept.Goals as goal

pub kept_by-requires-clause-holds : goal.kept_by-requires-clause-holds
kept_by-requires-clause-holds c = c.in_ok-note_all.ensures.holds c.if-branch.true

pub returns-then-branch-clause-all : goal.returns-then-branch-clause-all
returns-then-branch-clause-all c =
    let ring = c.args.ring.now in
    let plan = c.args.plan.now in
    let cert = c.args.cert.now in
    let O = is_ordered plan c.in_ok-facts.facts in
    let nodes : List Guard = below (λ x. node_clauses ring plan cert O (record { 0 = x })) (length ring.nodes) in
    λ none. (
    let rest = rest-alike ring plan c.in_ok-facts.facts cert c.in_ok-facts.ensures.ends
    ∙ (first-split (fact_clauses plan 0 cert.facts) (rest_clauses ring plan cert (ordered_by plan cert)) none).1 in
    let parts = first-split (below (partition_clauses ring plan O) ring.q) nodes rest in
    let clean = c.in_ok-note_all.ensures.clean parts.0 in
    c.kept_by.ensures.all
    (λ r. subst (λ (m : Missed). misses m r ≡ false) (sym clean.1) (c.none-missed.ensures r)) (c.in_ok-covered.ensures.all parts.1))

pub returns-clause-all : goal.returns-clause-all
returns-clause-all c =
    let ring = c.args.ring.now in
    let plan = c.args.plan.now in
    let cert = c.args.cert.now in
    let O = is_ordered plan c.in_ok-facts.facts in
    let nodes : List Guard = below (λ x. node_clauses ring plan cert O (record { 0 = x })) (length ring.nodes) in
    λ none. absurd (
    let rest = rest-alike ring plan c.in_ok-facts.facts cert c.in_ok-facts.ensures.ends
    ∙ (first-split (fact_clauses plan 0 cert.facts) (rest_clauses ring plan cert (ordered_by plan cert)) none).1 in
    let parts = first-split (below (partition_clauses ring plan O) ring.q) nodes rest in
    let e = sym (c.in_ok-note_all.ensures.clean parts.0).0 ∙ c.if-branch.false in
    cc)
