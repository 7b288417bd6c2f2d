use Rattle.std.proofs.Common.{ℕ, List, inr, subst}
use Rattle.std.proofs.lemmas.Result.{IfOk-weaker}
use Rattle.plan_goal.specs.Certs.{IsCertifiedText}
use Rattle.ringplan_reports.proofs.cert.cert_of_change.Goals as goal

pub returns : goal.returns
returns c =
    let whole = c.in_ok-text in
    IfOk-weaker c.cert_bundle.result _ _
    (λ text is. inr (whole.text.items, whole.ensures, subst (λ (bytes : List ℕ). IsCertifiedText bytes text.items) c.as_slice.ensures.value is)) c.cert_bundle.ensures.certified
