-- Certificates that are found.
use Rattle.std.specs.Prelude.{◌≡◌, ℕ, List, Result, Ok}
use Rattle.ring_names.specs.declared.refusal.Refusal.{Refusal}
use Rattle.texts.specs.Judging.{map_ok}
use Rattle.texts.specs.Left.{Left, then_part, map_part}
use Rattle.texts.specs.Parts.{lines_of}
use Rattle.ring_table.specs.Value.{RingValue}
use Rattle.ring_table.specs.Reading.{ring_at}
use Rattle.plan_text.specs.declared.step.Planned.{Planned}
use Rattle.plan_text.specs.Reading.{plan_at}
use Rattle.plan_cert.specs.declared.cert.Cert.{Cert}
use Rattle.plan_check.specs.Certified.{IsCertified}
use Rattle.plan_check.specs.Headline.{KeepsPromises}
use Rattle.plan_goal.specs.Proposals.{front_text}
use Rattle.plan_goal.specs.declared.cert.Front.{Front}

-- both as one, and one as both
abbrev pub front_of : RingValue × List Planned → Front
front_of x = record { ring = x.0; plan = x.1 }

abbrev pub parts : Front → RingValue × List Planned
parts x = (x.ring, x.plan)

-- a ring, and behind it a plan of that ring
unfoldable pub front_at : Left → Result (Front × Left) Refusal
front_at = map_part front_of (then_part ring_at plan_at)

-- the ring and the plan with which a text begins, or the first fault of these; what stands behind them is left
abbrev pub front_reading : List ℕ → Result (RingValue × List Planned) Refusal
front_reading bytes = map_ok (λ x. parts x.0) (front_at (record { line = 1; lines = lines_of bytes }))

-- the text is that of the ring, the plan and a certificate by which the checker accepts the plan. The plan
-- keeps its promises
abbrev pub IsCertifiedBy : RingValue → List Planned → List ℕ → Type 0
IsCertifiedBy ring plan text = (cert : Cert) × (text ≡ front_text ring plan cert) × IsCertified ring plan cert × KeepsPromises ring plan

-- the same of the ring and the plan with which the bytes begin
abbrev pub IsCertifiedText : List ℕ → List ℕ → Type 0
IsCertifiedText bytes text = (ring : RingValue) × (plan : List Planned) × (front_reading bytes ≡ Ok (ring, plan)) × IsCertifiedBy ring plan text

-- the text is that of the ring and the plan with which the bytes begin, and of some certificate
abbrev pub IsClaimedText : List ℕ → List ℕ → Type 0
IsClaimedText bytes text = (ring : RingValue) × (plan : List Planned) × (front_reading bytes ≡ Ok (ring, plan))
    × (cert : Cert) × (text ≡ front_text ring plan cert)
