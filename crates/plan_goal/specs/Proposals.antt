-- What is proposed for a change, and why nothing is.
use Rattle.std.specs.Prelude.{◌≡◌, ℕ, true, List, ◌++◌, Some}
use Rattle.ring_names.specs.declared.refusal.Refusal.{Refusal}
use Rattle.ring_names.specs.declared.refusal.Refusal.TheVariants.{NoPlan, OutOfMemory}
use Rattle.ring_table.specs.Spelling.{ring_text}
use Rattle.ring_table.specs.Value.{RingValue}
use Rattle.plan_text.specs.declared.step.Planned.{Planned}
use Rattle.plan_text.specs.Changes.{fulfils}
use Rattle.plan_text.specs.Spelling.{plan_text}
use Rattle.plan_text.specs.Valid.{IsPlan, Suits as PlanSuits}
use Rattle.plan_cert.specs.declared.cert.Cert.{Cert}
use Rattle.plan_cert.specs.Spelling.{cert_text}
use Rattle.plan_cert.specs.Valid.{Suits as CertSuits}
use Rattle.change_text.specs.declared.change.Change.{Change}
use Rattle.plan_check.specs.Certified.{IsCertified}
use Rattle.plan_check.specs.First.{first_refusal}

-- the plan is one of the ring that makes the change, and the certificate is one of the ring
pub record Makes (ring : RingValue) (change : Change) (plan : List Planned) (cert : Cert) : Type 0 where
  pub plan_suits : PlanSuits ring plan
  pub cert_suits : CertSuits ring cert
  pub fulfils : fulfils plan change.joins change.leaves ≡ true

-- the texts of a ring, a plan and a certificate
abbrev pub front_text : RingValue → List Planned → Cert → List ℕ
front_text ring plan cert = ring_text ring ++ (plan_text ring plan ++ cert_text ring cert)

-- the plan makes the change, and the checker accepts it by the certificate
pub record IsProposed (ring : RingValue) (change : Change) (plan : List Planned) (cert : Cert) : Type 0 where
  pub is_plan : IsPlan plan
  pub suits : CertSuits ring cert
  pub certified : IsCertified ring plan cert
  pub fulfils : fulfils plan change.joins change.leaves ≡ true

-- why there is none. Memory ran out, no plan was found, or for this reason the checker refused a plan of the
-- ring that makes the change. That is by some certificate, since the planner, which gives both, promises
-- nothing
pub data IsTurnedAway (ring : RingValue) (change : Change) (e : Refusal) : Type 0 where
  no_memory : e ≡ OutOfMemory → IsTurnedAway ring change e
  none_found : e ≡ NoPlan → IsTurnedAway ring change e
  not_accepted : (plan : List Planned) (cert : Cert) → IsPlan plan → Makes ring change plan cert → first_refusal ring plan cert ≡ Some e → IsTurnedAway ring change e
