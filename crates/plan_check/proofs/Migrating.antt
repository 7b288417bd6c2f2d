-- A ring that is migrated is refused as it was before.
use Rattle.std.proofs.Common.{◌≡◌, ℕ, Bool, true, false, cond, List, refl}
use Rattle.std.specs.Prelude.{◌==◌}
use Rattle.ring_table.specs.Value.{RingValue, migrated}
use Rattle.plan_text.specs.declared.step.Planned.{Planned}
use Rattle.plan_cert.specs.declared.cert.Cert.{Cert}
use Rattle.plan_check.specs.First.{first_refusal}

-- the first refusal says nothing of the format of the ring's text: by computation, as the clauses look at every other field
pub refusal-format : (v : RingValue) (f : ℕ) (plan : List Planned) (cert : Cert) → first_refusal (record v { format = f }) plan cert ≡ first_refusal v plan cert
refusal-format v f plan cert = refl

pub refusal-migrated : (v : RingValue) (plan : List Planned) (cert : Cert) → first_refusal (migrated v) plan cert ≡ first_refusal v plan cert
refusal-migrated v plan cert = by (v.format == 1)
  where
    by : (b : Bool) → first_refusal (cond b (record v { format = 2 }) v) plan cert ≡ first_refusal v plan cert
    by true = refusal-format v 2 plan cert
    by false = refl
