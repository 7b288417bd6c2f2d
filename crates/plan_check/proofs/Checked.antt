-- What the parts of the check find, put together.
use Rattle.std.proofs.Common.{◌≡◌, ℕ, ◌+◌, Bool, true, false, cond, List, [], ◌∷◌, length, refl, sym, ap, ◌∙◌, Option, Some, None, Result, Ok, Err}
use Rattle.std.specs.Prelude.{◌||◌, min, IfErr}
use Rattle.ring_names.specs.declared.refusal.Refusal.{Refusal}
use Rattle.ring_names.specs.declared.refusal.Refusal.TheVariants.{BadPath, OutOfMemory}
use Rattle.ring_table.specs.Value.{RingValue}
use Rattle.plan_text.specs.declared.step.Planned.{Planned}
use Rattle.plan_text.specs.Steps.{depends}
use Rattle.plan_order.specs.Paths.{is_path, first_bad}
use Rattle.plan_order.specs.declared.facts.Ends.{Ends}
use Rattle.plan_order.specs.Facts.{has_ends, some_leads, is_ordered}
use Rattle.plan_cert.specs.declared.cert.Cert.{Cert}
use Rattle.plan_stage.specs.Clauses.{Guard, Gives, first_failing, below}
use Rattle.plan_stage.specs.Partition.{partition_clauses}
use Rattle.plan_cover.specs.Clauses.{node_clauses}
use Rattle.plan_stage.proofs.Alike.{parts-alike, partition-alike, below-alike}
use Rattle.plan_cover.proofs.Alike.{node-alike}
use Rattle.plan_check.specs.Certified.{ordered_by}
use Rattle.plan_stage.proofs.Partitions.{gives-behind, gives-front, gives-same}
use Rattle.plan_check.specs.First.{fact_clauses, rest_clauses, all_clauses}

-- ---- facts

pub facts-first : (plan : List Planned) (n : ℕ) (fs : List (List ℕ)) → first_failing (fact_clauses plan n fs) ≡ first_bad plan n fs
facts-first plan n [] = refl
facts-first plan n (f ∷ fs) = ap (λ (o : Option Refusal). cond (is_path plan f) o (Some (BadPath (min n 4294967295)))) (facts-first plan (n + 1) fs)

-- ---- what facts tell is what the certificate proves to be in order

pub order-alike : (plan : List Planned) (facts : List Ends) (cert : Cert) → ((a b : ℕ) → has_ends a b facts ≡ some_leads a b cert.facts) → (a b : ℕ) → is_ordered plan facts a b ≡ ordered_by plan cert a b
order-alike plan facts cert ends a b = ap (λ (t : Bool). depends plan a b || t) (ends a b)

pub rest-alike : (ring : RingValue) (plan : List Planned) (facts : List Ends) (cert : Cert) → ((a b : ℕ) → has_ends a b facts ≡ some_leads a b cert.facts)
    → first_failing (rest_clauses ring plan cert (is_ordered plan facts)) ≡ first_failing (rest_clauses ring plan cert (ordered_by plan cert))
rest-alike ring plan facts cert ends =
    let O = is_ordered plan facts in
    let P = ordered_by plan cert in
    let same = order-alike plan facts cert ends in
    let nodes : (ℕ → ℕ → Bool) → ℕ → List Guard = λ Q x. node_clauses ring plan cert Q (record { 0 = x }) in
    parts-alike (below (partition_clauses ring plan O) ring.q) (below (partition_clauses ring plan P) ring.q) (below (nodes O) (length ring.nodes)) (below (nodes P) (length ring.nodes))
    (below-alike (partition_clauses ring plan O) (partition_clauses ring plan P) (λ p. partition-alike ring plan O P same p) ring.q)
    (below-alike (nodes O) (nodes P) (λ x. node-alike ring plan cert O P same (record { 0 = x })) (length ring.nodes))

-- ---- memory

-- ---- what verifying facts found

pub facts-good : {X : Type 0} → (o : Option Refusal) (r : Result X Refusal) (f : X) → ((e : Refusal) → o ≡ Some e → r ≡ Err e) → r ≡ Ok f → o ≡ None
facts-good None r f bad ok = refl
facts-good (Some e) r f bad ok = (let h : Ok f ≡ Err e = sym ok ∙ bad e refl in absurd cc)

abbrev err : (X : Type 0) → Refusal → Result X Refusal
err X e = Err e

pub facts-bad : {X : Type 0} → (o : Option Refusal) (r : Result X Refusal) (d : Refusal) → ((e : Refusal) → o ≡ Some e → r ≡ Err e) → (o ≡ None → d ≡ OutOfMemory) → r ≡ Err d → (d ≡ OutOfMemory → ⊥) → o ≡ Some d
facts-bad None r d bad good is ne = absurd (ne (good refl))
facts-bad {X} (Some e) r d bad good is ne = (let h : err X e ≡ err X d = sym (bad e refl) ∙ is in cc)

-- ---- memory is refused

bad-path : (plan : List Planned) (n : ℕ) (fs : List (List ℕ)) (e : Refusal) → first_bad plan n fs ≡ Some e → e ≡ OutOfMemory → ⊥
bad-path plan n [] e h m = absurd cc
bad-path plan n (f ∷ fs) e h m = by (is_path plan f) h (λ g. bad-path plan (n + 1) fs e g m)
  where
    by : (b : Bool) → cond b (first_bad plan (n + 1) fs) (Some (BadPath (min n 4294967295))) ≡ Some e → (first_bad plan (n + 1) fs ≡ Some e → ⊥) → ⊥
    by true g later = later g
    by false g later = absurd cc

-- the facts hold
pub facts-late : {X : Type 0} → (plan : List Planned) (fs : List (List ℕ)) (r : Result X Refusal) (d : Refusal) → ((e : Refusal) → first_bad plan 0 fs ≡ Some e → r ≡ Err e) → r ≡ Err d → d ≡ OutOfMemory → first_bad plan 0 fs ≡ None
facts-late {X} plan fs r d bad is memory = by (first_bad plan 0 fs) refl
  where
    by : (o : Option Refusal) → first_bad plan 0 fs ≡ o → o ≡ None
    by None e = refl
    by (Some f) e =
        let h : err X f ≡ err X d = sym (bad f e) ∙ is in
        let g : f ≡ d = cc in
        absurd (bad-path plan 0 fs f e (g ∙ memory))

pub late-behind : (r : Result (Unit {0}) Refusal) (o : Option Refusal) → o ≡ None → IfErr r (λ e. e ≡ OutOfMemory → o ≡ None)
late-behind (Ok x) o h = tt
late-behind (Err e) o h = λ m. h

-- ---- facts and what comes behind them

-- facts that are refused
pub unverified : {X : Type 0} → (ring : RingValue) (plan : List Planned) (cert : Cert) (r : Result X Refusal) (d : Refusal)
    → ((e : Refusal) → first_bad plan 0 cert.facts ≡ Some e → r ≡ Err e) → (first_bad plan 0 cert.facts ≡ None → d ≡ OutOfMemory) → r ≡ Err d
    → Gives (Err d) (all_clauses ring plan cert)
unverified ring plan cert r d bad good is =
    gives-front d (fact_clauses plan 0 cert.facts) (rest_clauses ring plan cert (ordered_by plan cert)) (λ ne. facts-first plan 0 cert.facts ∙ facts-bad (first_bad plan 0 cert.facts) r d bad good is ne)

-- facts that are verified
pub verified : {X : Type 0} → (plan : List Planned) (fs : List (List ℕ)) (r : Result X Refusal) (f : X) → ((e : Refusal) → first_bad plan 0 fs ≡ Some e → r ≡ Err e) → r ≡ Ok f
    → first_failing (fact_clauses plan 0 fs) ≡ None
verified plan fs r f bad is = facts-first plan 0 fs ∙ facts-good (first_bad plan 0 fs) r f bad is

-- behind them, what the other clauses give is what all give
pub behind-facts : (ring : RingValue) (plan : List Planned) (facts : List Ends) (cert : Cert) → first_failing (fact_clauses plan 0 cert.facts) ≡ None
    → ((a b : ℕ) → has_ends a b facts ≡ some_leads a b cert.facts) → (r : Result (Unit {0}) Refusal) → Gives r (rest_clauses ring plan cert (is_ordered plan facts)) → Gives r (all_clauses ring plan cert)
behind-facts ring plan facts cert none ends r given =
    gives-behind r (fact_clauses plan 0 cert.facts) (rest_clauses ring plan cert (ordered_by plan cert)) none
    (gives-same r (rest_clauses ring plan cert (is_ordered plan facts)) (rest_clauses ring plan cert (ordered_by plan cert)) (rest-alike ring plan facts cert ends) given)
