-- A front is read only from the lines of its parts.
use Rattle.std.proofs.Common.{ℕ, List, ◌++◌, refl}
use Rattle.texts.specs.Laws.{IsPart, Any}
use Rattle.texts.proofs.Items.{IsPart-then, IsPart-map}
use Rattle.ring_table.specs.Value.{RingValue}
use Rattle.ring_table.specs.Valid.{IsRing}
use Rattle.ring_table.specs.Reading.{ring_at}
use Rattle.ring_table.specs.Spelling.{ring_lines}
use Rattle.ring_table.proofs.RingLaws.{ring-part}
use Rattle.plan_text.specs.Reading.{plan_at}
use Rattle.plan_text.specs.Spelling.{plan_lines}
use Rattle.plan_text.proofs.PlanForm.{plan_form}
use Rattle.plan_text.proofs.PlanLaws.{plan-part}
use Rattle.plan_cert.specs.Reading.{cert_at}
use Rattle.plan_cert.specs.Spelling.{cert_lines}
use Rattle.plan_cert.proofs.CertForm.{cert_form}
use Rattle.plan_cert.proofs.CertLaws.{cert-part}
use Rattle.plan_cert.specs.declared.front.Claims.{Claims}
use Rattle.plan_cert.specs.declared.front.Front.{Front}
use Rattle.plan_cert.specs.Front.{claims_of, claims_at, front_of, front_at}

-- the lines of a plan and a certificate, and what the two forms allow
abbrev claims_lines : RingValue → Claims → List (List (List ℕ))
claims_lines ring x = plan_lines ring x.plan ++ cert_lines ring x.cert

abbrev AreAllowed : RingValue → Claims → Type 0
AreAllowed ring x = (plan_form ring).allowed x.plan × (cert_form ring).allowed x.cert

claims-part : (ring : RingValue) → IsRing ring → IsPart Any (claims_at ring) (claims_lines ring) (AreAllowed ring)
unfolding claims_at
claims-part ring valid = IsPart-map Any _ _ _ claims_of (λ x. (x.plan, x.cert)) (λ x. refl) (λ x. refl)
    (IsPart-then Any Any (plan_at ring) (λ _. cert_at ring) (plan_lines ring) (λ _. cert_lines ring) (plan_form ring).allowed (λ _. (cert_form ring).allowed) (plan-part ring valid) (λ _ _. cert-part ring valid) (λ a b x xs p q d. tt))

-- the lines of a front
abbrev pub front_lines : Front → List (List (List ℕ))
front_lines x = ring_lines x.ring ++ (plan_lines x.ring x.plan ++ cert_lines x.ring x.cert)

abbrev claims_in : Front → Claims
claims_in x = record { plan = x.plan; cert = x.cert }

pub front-part : IsPart Any front_at front_lines (λ x. IsRing x.ring × AreAllowed x.ring (claims_in x))
unfolding front_at
front-part = IsPart-map Any _ _ _ front_of (λ x. (x.ring, claims_in x)) (λ x. refl) (λ x. refl)
    (IsPart-then Any Any ring_at claims_at ring_lines claims_lines IsRing AreAllowed ring-part claims-part (λ a b x xs p q d. tt))
