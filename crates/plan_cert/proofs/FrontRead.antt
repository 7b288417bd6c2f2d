-- Reading what follows a ring does not go back.
use Rattle.std.proofs.Common.{◌≡◌, ◌≤◌, Ok}
use Rattle.texts.specs.Left.{Left}
use Rattle.texts.proofs.Lates.{Advances, advances-then, advances-map, past}
use Rattle.ring_table.specs.Value.{RingValue}
use Rattle.plan_text.proofs.PlanLates.{plan-on}
use Rattle.plan_cert.proofs.CertLates.{cert-on}
use Rattle.plan_cert.specs.declared.front.Claims.{Claims}
use Rattle.plan_cert.specs.Front.{claims_at}

pub claims-on : (ring : RingValue) → Advances (claims_at ring)
unfolding claims_at
claims-on ring = advances-map _ _ (advances-then _ _ (plan-on ring) (λ _. cert-on ring))

pub past-claims : (ring : RingValue) (s t : Left) (v : Claims) → claims_at ring s ≡ Ok (v, t) → s.line ≤ t.line
past-claims ring s t v e = past (claims_at ring) (claims-on ring) s t v e
