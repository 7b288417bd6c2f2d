-- Tests of the order of steps that agree everywhere refuse a node alike.
use Rattle.std.proofs.Common.{◌≡◌, ℕ, ◌+◌, List, [], ◌∷◌, ◌++◌, refl}
use Rattle.ring_names.specs.declared.ids.NodeId.{NodeId}
use Rattle.ring_names.specs.declared.refusal.Refusal.TheVariants.{NotJoined}
use Rattle.ring_table.specs.declared.allowance.Side.{Side}
use Rattle.ring_table.specs.Value.{RingValue}
use Rattle.plan_text.specs.declared.step.Step.{Step}
use Rattle.plan_text.specs.declared.step.Planned.{Planned}
use Rattle.plan_text.specs.Steps.{is_retire_of}
use Rattle.plan_cert.specs.declared.cert.Chain.{Chain}
use Rattle.plan_cert.specs.declared.cert.Cert.{Cert}
use Rattle.plan_stage.specs.Clauses.{Guard, first_failing}
use Rattle.plan_stage.specs.Partition.{Test, has_joined, steps_clauses}
use Rattle.plan_stage.proofs.Alike.{parts-alike, asked-alike, steps-alike, has_joined-alike}
use Rattle.plan_cover.specs.Clauses.{retire_clauses, is_good_chain, chains_clauses, side_covers, side_count, each_side, node_clauses}

pub retire-alike : (ring : RingValue) (plan : List Planned) (O P : Test) → ((a b : ℕ) → O a b ≡ P a b) → (x : NodeId) (n : ℕ) (s : Step) → first_failing (retire_clauses ring plan O x n s) ≡ first_failing (retire_clauses ring plan P x n s)
retire-alike ring plan O P same x n s =
    asked-alike (is_retire_of x.0 s) ((has_joined ring plan O n x, NotJoined n) ∷ []) ((has_joined ring plan P n x, NotJoined n) ∷ [])
    (rw (has_joined-alike ring plan O P same n x) refl)

pub good_chain-alike : (ring : RingValue) (plan : List Planned) (O P : Test) → ((a b : ℕ) → O a b ≡ P a b) → (x : NodeId) (side : Side) (steps : List ℕ) → is_good_chain ring plan O x side steps ≡ is_good_chain ring plan P x side steps
good_chain-alike ring plan O P same x side [] = refl
good_chain-alike ring plan O P same x side (a ∷ []) = refl
good_chain-alike ring plan O P same x side (a ∷ b ∷ rest) = rw (same a b, good_chain-alike ring plan O P same x side (b ∷ rest)) refl

pub chains-alike : (ring : RingValue) (plan : List Planned) (O P : Test) → ((a b : ℕ) → O a b ≡ P a b) → (x : NodeId) (k : ℕ) (chains : List Chain) → first_failing (chains_clauses ring plan O x k chains) ≡ first_failing (chains_clauses ring plan P x k chains)
chains-alike ring plan O P same x k [] = refl
chains-alike ring plan O P same x k (c ∷ cs) = rw (good_chain-alike ring plan O P same x c.side c.steps, chains-alike ring plan O P same x (k + 1) cs) refl

-- a node is refused alike under either test
pub node-alike : (ring : RingValue) (plan : List Planned) (cert : Cert) (O P : Test) → ((a b : ℕ) → O a b ≡ P a b) → (x : NodeId) → first_failing (node_clauses ring plan cert O x) ≡ first_failing (node_clauses ring plan cert P x)
node-alike ring plan cert O P same x =
    let covered : List Guard = each_side (side_covers ring plan cert x) ++ each_side (side_count ring cert x) in
    parts-alike (steps_clauses (retire_clauses ring plan O x) 0 plan) (steps_clauses (retire_clauses ring plan P x) 0 plan)
    (chains_clauses ring plan O x 0 cert.chains ++ covered) (chains_clauses ring plan P x 0 cert.chains ++ covered)
    (steps-alike (retire_clauses ring plan O x) (retire_clauses ring plan P x) (retire-alike ring plan O P same x) 0 plan)
    (parts-alike (chains_clauses ring plan O x 0 cert.chains) (chains_clauses ring plan P x 0 cert.chains) covered covered (chains-alike ring plan O P same x 0 cert.chains) refl)
