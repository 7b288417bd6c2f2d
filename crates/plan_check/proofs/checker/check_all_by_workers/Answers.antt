use Rattle.std.proofs.Common.{refl, sym, ◌∙◌}
use Rattle.plan_stage.specs.Clauses.{first_failing}
use Rattle.plan_check.specs.First.{fact_clauses}
use Rattle.plan_check.proofs.Checked.{facts-first, facts-late, late-behind, unverified, verified, behind-facts}
use Rattle.plan_check.proofs.checker.check_all_by_workers.Goals as goal

pub returns-in-Some-clause-first : goal.returns-in-Some-clause-first
returns-in-Some-clause-first g c =
    let none = verified c.args.plan.now c.args.cert.now.facts c.verify_parallel.result c.in-Ok.facts c.verify_parallel.ensures.bad c.in-Ok.is in
    behind-facts c.args.ring.now c.args.plan.now c.in-Ok.facts c.args.cert.now none c.in-Ok.ensures.ends c.check_rest.result c.check_rest.ensures.first

pub returns-in-Some-clause-late : goal.returns-in-Some-clause-late
returns-in-Some-clause-late g c =
    let none = verified c.args.plan.now c.args.cert.now.facts c.verify_parallel.result c.in-Ok.facts c.verify_parallel.ensures.bad c.in-Ok.is in
    late-behind c.check_rest.result (first_failing (fact_clauses c.args.plan.now 0 c.args.cert.now.facts)) none

pub returns-in-Ok-clause-facts : goal.returns-in-Ok-clause-facts
returns-in-Ok-clause-facts g c =
    verified c.args.plan.now c.args.cert.now.facts c.verify_parallel.result c.in-Ok.facts c.verify_parallel.ensures.bad c.in-Ok.is

pub returns-clause-first : goal.returns-clause-first
returns-clause-first g c =
    unverified c.args.ring.now c.args.plan.now c.args.cert.now c.verify_parallel.result c.in-Err.refusal c.verify_parallel.ensures.bad c.in-Err.ensures.good c.in-Err.is

pub returns-clause-late : goal.returns-clause-late
returns-clause-late g c =
    λ m. facts-first c.args.plan.now 0 c.args.cert.now.facts ∙ facts-late c.args.plan.now c.args.cert.now.facts c.verify_parallel.result c.in-Err.refusal c.verify_parallel.ensures.bad c.in-Err.is m

pub returns-clause-turned : goal.returns-clause-turned
returns-clause-turned g c = λ must facts.
    let whole = sym (facts-first c.args.plan.now 0 c.args.cert.now.facts) ∙ facts in
    let is = c.in-Err.ensures.good whole in
    rw is refl
