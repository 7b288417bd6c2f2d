use Rattle.std.proofs.Common.{◌∙◌}
use Rattle.plan_order.specs.Facts.{is_ordered}
use Rattle.plan_stage.specs.Clauses.{first_failing}
use Rattle.plan_check.specs.First.{fact_clauses}
use Rattle.plan_check.proofs.Checked.{facts-first, facts-late, late-behind, unverified, verified, behind-facts}
use Rattle.plan_check.proofs.Shared.{whole-share}
use Rattle.plan_check.proofs.checker.check_all.Goals as goal

pub check_rest-requires-clause-found : goal.check_rest-requires-clause-found
check_rest-requires-clause-found c =
    let given = rw (c.q.ensures).value at c.check_share-found.ensures in
    whole-share c.args.ring.now c.args.plan.now (is_ordered c.args.plan.now c.in-Ok.facts) c.check_share-found.result given

pub returns-in-Ok-clause-first : goal.returns-in-Ok-clause-first
returns-in-Ok-clause-first c =
    let none = verified c.args.plan.now c.args.cert.now.facts c.verify.result c.in-Ok.facts c.verify.ensures.bad c.in-Ok.is in
    behind-facts c.args.ring.now c.args.plan.now c.in-Ok.facts c.args.cert.now none c.in-Ok.ensures.ends c.check_rest.result c.check_rest.ensures.first

pub returns-in-Ok-clause-late : goal.returns-in-Ok-clause-late
returns-in-Ok-clause-late c =
    let none = verified c.args.plan.now c.args.cert.now.facts c.verify.result c.in-Ok.facts c.verify.ensures.bad c.in-Ok.is in
    late-behind c.check_rest.result (first_failing (fact_clauses c.args.plan.now 0 c.args.cert.now.facts)) none

pub returns-in-Err-clause-first : goal.returns-in-Err-clause-first
returns-in-Err-clause-first c =
    unverified c.args.ring.now c.args.plan.now c.args.cert.now c.verify.result c.in-Err.refusal c.verify.ensures.bad c.in-Err.ensures.good c.in-Err.is

pub returns-in-Err-clause-late : goal.returns-in-Err-clause-late
returns-in-Err-clause-late c =
    λ m. facts-first c.args.plan.now 0 c.args.cert.now.facts ∙ facts-late c.args.plan.now c.args.cert.now.facts c.verify.result c.in-Err.refusal c.verify.ensures.bad c.in-Err.is m
