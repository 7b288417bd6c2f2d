-- What a certificate says of a plan.
use Rattle.std.specs.Prelude.{◌≡◌, ℕ, ◌<◌, Bool, true, ◌||◌, List, [], length, Some, None}
use Rattle.std.specs.List.{list_all}
use Rattle.ring_table.specs.declared.allowance.Side.{Side}
use Rattle.ring_table.specs.Value.{RingValue, allowance_of}
use Rattle.plan_text.specs.declared.step.Planned.{Planned}
use Rattle.plan_text.specs.Steps.{depends}
use Rattle.plan_order.specs.Paths.{is_path}
use Rattle.plan_order.specs.Facts.{some_leads}
use Rattle.plan_cert.specs.declared.cert.Cert.{Cert}
use Rattle.plan_cover.specs.Clauses.{chains_from}
use Rattle.plan_check.specs.Sound.{Meets, HaveOnly, is_party_of}

-- what a certificate proves to be in order: direct dependencies, and the ends of its facts
abbrev pub ordered_by : List Planned → Cert → ℕ → ℕ → Bool
ordered_by plan cert a b = depends plan a b || some_leads a b cert.facts

-- the facts are paths, and the plan meets all by what they prove and by the certificate's own chains. These
-- have only copies in which their node takes part on their side. A declared node has no chain on a side that
-- its allowance does not count
pub record IsCertified (ring : RingValue) (plan : List Planned) (cert : Cert) : Type 0 where
  pub facts : list_all (is_path plan) cert.facts ≡ true
  pub meets : Meets ring plan (λ a b. ordered_by plan cert a b ≡ true) (λ x side. chains_from x side cert.chains)
  pub entries : (x : ℕ) (side : Side) (a : ℕ) → allowance_of ring x side ≡ Some a → HaveOnly (is_party_of ring plan x side) (chains_from x side cert.chains)
  pub sides : (x : ℕ) (side : Side) → x < length ring.nodes → allowance_of ring x side ≡ None → chains_from x side cert.chains ≡ []
