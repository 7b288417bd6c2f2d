-- No clause of the checker is refused because a limit of turns was spent.
use Rattle.std.proofs.Common.{◌≡◌, ℕ, suc, zero, ◌+◌, Bool, true, false, cond, List, [], ◌∷◌, ◌++◌, length, min, sym, ap, ◌∙◌, Option, Some, Err}
use Rattle.ring_names.specs.declared.refusal.Refusal.{Refusal}
use Rattle.ring_names.specs.declared.refusal.Refusal.TheVariants.{BadPath, TurnsSpent, OutOfMemory}
use Rattle.std.specs.Prelude.{◌==◌}
use Rattle.ring_names.specs.declared.ids.NodeId.{NodeId}
use Rattle.ring_names.specs.declared.ids.Slot.{Slot}
use Rattle.ring_table.specs.declared.allowance.Side.{Side}
use Rattle.ring_table.specs.declared.allowance.Side.TheVariants.{Both, Take, Give}
use Rattle.ring_table.specs.Value.{RingValue}
use Rattle.plan_text.specs.declared.step.Source.TheVariants.{Owner, Slots}
use Rattle.plan_text.specs.declared.step.Step.{Step}
use Rattle.plan_text.specs.declared.step.Step.TheVariants.{Join, Mirror, Copy, Switch, Drop, Retire}
use Rattle.plan_text.specs.declared.step.Planned.{Planned}
use Rattle.plan_text.specs.Steps.{steps_of, is_retire_of}
use Rattle.plan_order.specs.Paths.{is_path}
use Rattle.plan_cert.specs.declared.cert.Chain.{Chain}
use Rattle.plan_cert.specs.declared.cert.Cert.{Cert}
use Rattle.plan_stage.specs.Stage.{is_among}
use Rattle.plan_stage.specs.Parties.{parties_on}
use Rattle.plan_stage.specs.Clauses.{Guard, Gives, first_failing, below}
use Rattle.plan_stage.specs.Partition.{Test, mirror_clauses, copy_clauses, step_clauses, steps_clauses, slot_step_clauses, slot_clauses, partition_clauses}
use Rattle.plan_stage.specs.Each.{slot_in}
use Rattle.plan_cover.specs.Clauses.{chains_from, retire_clauses, chains_clauses, cover_clauses, side_covers, side_count, each_side, node_clauses, has_side}
use Rattle.plan_check.specs.Certified.{ordered_by}
use Rattle.plan_check.specs.First.{fact_clauses, rest_clauses, all_clauses, first_refusal}

-- none of these clauses is refused so
Unspent : List Guard → Type 0
Unspent cs = first_failing cs ≡ Some TurnsSpent → ⊥

nothing : Unspent []
unfolding Unspent
nothing e = absurd cc

one-more : (b : Bool) (r : Refusal) (cs : List Guard) → (r ≡ TurnsSpent → ⊥) → Unspent cs → Unspent ((b, r) ∷ cs)
unfolding Unspent
one-more true r cs other rest e = rest e
one-more false r cs other rest e = other (some-injective e)
  where
    some-injective : Some r ≡ Some TurnsSpent → r ≡ TurnsSpent
    some-injective f = cc

-- only from the first clause, or from those behind it
headed : (b : Bool) (r : Refusal) (o p : Option Refusal) → (cond b o (Some r) ≡ Some TurnsSpent → ⊥) → ((o ≡ Some TurnsSpent → ⊥) → p ≡ Some TurnsSpent → ⊥) → cond b p (Some r) ≡ Some TurnsSpent → ⊥
headed true r o p left later e = later left e
headed false r o p left later e = left e

both : (cs ds : List Guard) → Unspent cs → Unspent ds → Unspent (cs ++ ds)
unfolding Unspent
both [] ds left right e = right e
both (c ∷ cs) ds left right e = headed c.0 c.1 (first_failing cs) (first_failing (cs ++ ds)) left (λ more. both cs ds more right) e

either : (b : Bool) (cs : List Guard) → Unspent cs → Unspent (cond b cs [])
either true cs h = h
either false cs h = nothing

all-below : (f : ℕ → List Guard) (n : ℕ) → ((k : ℕ) → Unspent (f k)) → Unspent (below f n)
unfolding below
all-below f zero each = nothing
all-below f (suc n) each = both (below f n) (f n) (all-below f n each) (each n)

all-steps : (f : ℕ → Step → List Guard) (n : ℕ) (plan : List Planned) → ((k : ℕ) (s : Step) → Unspent (f k s)) → Unspent (steps_clauses f n plan)
all-steps f n [] each = nothing
all-steps f n (x ∷ xs) each = both (f n x.step) (steps_clauses f (n + 1) xs) (each n x.step) (all-steps f (n + 1) xs each)

facts : (plan : List Planned) (n : ℕ) (fs : List (List ℕ)) → Unspent (fact_clauses plan n fs)
facts plan n [] = nothing
facts plan n (f ∷ fs) = one-more (is_path plan f) (BadPath (min n 4294967295)) (fact_clauses plan (n + 1) fs) (λ e. absurd cc) (facts plan (n + 1) fs)

-- one clause, and two
one : (b : Bool) (r : Refusal) → (r ≡ TurnsSpent → ⊥) → Unspent ((b, r) ∷ [])
one b r other = one-more b r [] other nothing

two : (b c : Bool) (r t : Refusal) → (r ≡ TurnsSpent → ⊥) → (t ≡ TurnsSpent → ⊥) → Unspent ((b, r) ∷ (c, t) ∷ [])
two b c r t other another = one-more b r ((c, t) ∷ []) other (one c t another)

module _ (ring : RingValue) (plan : List Planned) (O : Test) where
  slot : (s : Slot) → Unspent (slot_clauses ring plan O s)
  slot s = all-below (slot_step_clauses ring plan O s) (length (steps_of plan s)) (λ k. two _ _ _ _ (λ e. absurd cc) (λ e. absurd cc))

  step : (p n : ℕ) (s : Step) → Unspent (step_clauses ring plan O p n s)
  step p n (Join x) = nothing
  step p n (Mirror s x) = either (s.partition == p) (mirror_clauses ring plan O n s x) (two _ _ _ _ (λ e. absurd cc) (λ e. absurd cc))
  step p n (Copy s Owner) = nothing
  step p n (Copy s (Slots from)) = either (s.partition == p) (copy_clauses ring plan O n s from) (two _ _ _ _ (λ e. absurd cc) (λ e. absurd cc))
  step p n (Switch s) = nothing
  step p n (Drop s x) = nothing
  step p n (Retire x) = one _ _ (λ e. absurd cc)

  partition : (p : ℕ) → Unspent (partition_clauses ring plan O p)
  partition p = both (below (λ i. slot_clauses ring plan O (slot_in p i)) ring.n) (steps_clauses (step_clauses ring plan O p) 0 plan)
      (all-below (λ i. slot_clauses ring plan O (slot_in p i)) ring.n (λ i. slot (slot_in p i))) (all-steps (step_clauses ring plan O p) 0 plan (step p))

  chains : (x : NodeId) (k : ℕ) (cs : List Chain) → Unspent (chains_clauses ring plan O x k cs)
  chains x k [] = nothing
  chains x k (c ∷ cs) = one-more _ _ (chains_clauses ring plan O x (k + 1) cs) (λ e. absurd cc) (chains x (k + 1) cs)

  retirement : (x : NodeId) (n : ℕ) (s : Step) → Unspent (retire_clauses ring plan O x n s)
  retirement x n s = either (is_retire_of x.0 s) _ (one _ _ (λ e. absurd cc))

  covers : (x : NodeId) (of : List (List ℕ)) (side : Side) (n : ℕ) (s : Step) → Unspent (cover_clauses ring plan of x side n s)
  covers x of side n s = either (is_among x (parties_on ring plan side n)) _ (one _ _ (λ e. absurd cc))

  each : (f : Side → List Guard) → ((side : Side) → Unspent (f side)) → Unspent (each_side f)
  each f all = both (f Both) (f Take ++ f Give) (all Both) (both (f Take) (f Give) (all Take) (all Give))

  node : (cert : Cert) (x : NodeId) → Unspent (node_clauses ring plan cert O x)
  node cert x =
      let sides = each (side_covers ring plan cert x) (λ side. either (has_side ring x side) _ (all-steps (cover_clauses ring plan (chains_from x.0 side cert.chains) x side) 0 plan (covers x (chains_from x.0 side cert.chains) side))) in
      let counts = each (side_count ring cert x) (λ side. one _ _ (λ e. absurd cc)) in
      both (steps_clauses (retire_clauses ring plan O x) 0 plan) _ (all-steps (retire_clauses ring plan O x) 0 plan (retirement x))
      (both (chains_clauses ring plan O x 0 cert.chains) _ (chains x 0 cert.chains) (both (each_side (side_covers ring plan cert x)) (each_side (side_count ring cert x)) sides counts))

-- the first refusal is another one
pub never-spent : (ring : RingValue) (plan : List Planned) (cert : Cert) → first_refusal ring plan cert ≡ Some TurnsSpent → ⊥
unfolding Unspent
never-spent ring plan cert =
    let O = ordered_by plan cert in
    let parts = all-below (partition_clauses ring plan O) ring.q (partition ring plan O) in
    let nodes = all-below (λ x. node_clauses ring plan cert O (record { 0 = x })) (length ring.nodes) (λ x. node ring plan O cert (record { 0 = x })) in
    both (fact_clauses plan 0 cert.facts) (rest_clauses ring plan cert O) (facts plan 0 cert.facts)
    (both (below (partition_clauses ring plan O) ring.q) (below (λ x. node_clauses ring plan cert O (record { 0 = x })) (length ring.nodes)) parts nodes)

-- so what the clauses give is never that
pub spent-is-never-first : (ring : RingValue) (plan : List Planned) (cert : Cert) (e : Refusal) → e ≡ TurnsSpent → Gives (Err e) (all_clauses ring plan cert) → ⊥
spent-is-never-first ring plan cert e is given =
    never-spent ring plan cert (given (λ m. let f : TurnsSpent ≡ OutOfMemory = sym is ∙ m in absurd cc) ∙ ap some is)
  where
    some : Refusal → Option Refusal
    some r = Some r
