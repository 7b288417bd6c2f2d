use Rattle.plan_text.specs.Reading.{plan_at}
use Rattle.plan_text.proofs.PlanLates.{past-plan}
use Rattle.plan_cert.specs.Reading.{cert_at}
use Rattle.plan_cert.proofs.CertLates.{cert-on}
use Rattle.plan_cert.specs.Front.{claims_of, claims_at}
use Rattle.texts.proofs.PartLaws.{late-first, late-second, on-monotone}
use Rattle.plan_cert.proofs.front.read_claims.Goals as goal

pub returns-in_err-plan-clause-late : goal.returns-in_err-plan-clause-late
unfolding claims_at
returns-in_err-plan-clause-late c = late-first claims_of (plan_at c.args.ring.now) (λ _. cert_at c.args.ring.now) 2 c.from_residual.result c.in_err-plan.field-0.0 c.args.lines.now c.read_plan_section.new.lines
    c.from_residual.ensures.1 (λ _. cert-on c.args.ring.now) c.in_err-plan.ensures.late

pub returns-in_err-cert-clause-late : goal.returns-in_err-cert-clause-late
unfolding claims_at
returns-in_err-cert-clause-late c = late-second claims_of (plan_at c.args.ring.now) (λ _. cert_at c.args.ring.now) 2 2 c.from_residual-in_err-cert.result c.in_err-cert.field-0.0 c.args.lines.now c.read_plan_section.new.lines
    c.read_cert_section.new.lines c.in_ok-plan.plan c.from_residual-in_err-cert.ensures.1 c.in_ok-plan.ensures.read
    (on-monotone 2 _ _ (past-plan c.args.ring.now c.args.lines.now c.read_plan_section.new.lines c.in_ok-plan.plan c.in_ok-plan.ensures.read)) c.in_err-cert.ensures.late
