-- The front of a bundle.
use Rattle.std.specs.Prelude.{List, ◌++◌, Result}
use Rattle.ring_names.specs.declared.refusal.Refusal.{Refusal}
use Rattle.texts.specs.Left.{Left, then_part, map_part}
use Rattle.ring_table.specs.Value.{RingValue}
use Rattle.ring_table.specs.Reading.{ring_at}
use Rattle.plan_text.specs.declared.step.Planned.{Planned}
use Rattle.plan_text.specs.Reading.{plan_at}
use Rattle.plan_text.specs.Valid as plan
use Rattle.plan_cert.specs.declared.cert.Cert.{Cert}
use Rattle.plan_cert.specs.Reading.{cert_at}
use Rattle.plan_cert.specs.Valid as cert
use Rattle.plan_cert.specs.declared.front.Claims.{Claims}
use Rattle.plan_cert.specs.declared.front.Front.{Front}

-- a plan and a certificate as one
abbrev pub claims_of : List Planned × Cert → Claims
claims_of x = record { plan = x.0; cert = x.1 }

-- a plan of the ring, and after it a certificate
unfoldable pub claims_at : RingValue → Left → Result (Claims × Left) Refusal
claims_at ring = map_part claims_of (then_part (plan_at ring) (λ _. cert_at ring))

-- a ring and its claims as one
abbrev pub front_of : RingValue × Claims → Front
front_of x = record { ring = x.0; plan = x.1.plan; cert = x.1.cert }

-- a ring, after it a plan of that ring, and after that a certificate
unfoldable pub front_at : Left → Result (Front × Left) Refusal
front_at = map_part front_of (then_part ring_at claims_at)

-- the plan and the certificate are of the ring
abbrev pub ClaimsSuit : RingValue → Claims → Type 0
ClaimsSuit ring x = plan.Suits ring x.plan × cert.Suits ring x.cert

abbrev pub FrontSuits : Front → Type 0
FrontSuits x = plan.Suits x.ring x.plan × cert.Suits x.ring x.cert
