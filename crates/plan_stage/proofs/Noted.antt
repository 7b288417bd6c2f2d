-- What is noted of the clauses for a step and for a partition.
use Rattle.std.proofs.Common.{◌≡◌, ◌⊎◌, ℕ, Bool, true, false, cond, List, [], ◌∷◌, Option, Some, None, refl, sym, subst, inl, inr, eqb-true}
use Rattle.std.specs.Prelude.{◌||◌, ◌==◌}
use Rattle.std.specs.List.{list_all}
use Rattle.std.proofs.lemmas.Bool.{and_from, and_parts, or_cases, or_left, or_right}
use Rattle.ring_names.specs.Lists.{has}
use Rattle.ring_names.specs.declared.refusal.Refusal.{Refusal}
use Rattle.ring_names.specs.declared.refusal.Refusal.TheVariants.{BadSource, MovingSource, SharedInPlan, NotJoined, RetiredInUse}
use Rattle.ring_table.specs.Value.{RingValue}
use Rattle.plan_text.specs.declared.step.Source.TheVariants.{Owner, Slots}
use Rattle.plan_text.specs.declared.step.Step.{Step}
use Rattle.plan_text.specs.declared.step.Step.TheVariants.{Join, Mirror, Copy, Switch, Drop, Retire}
use Rattle.plan_text.specs.declared.step.Planned.{Planned}
use Rattle.plan_stage.specs.declared.missed.Missed.{Missed}
use Rattle.plan_stage.specs.Clauses.{Guard, first_failing}
use Rattle.plan_stage.specs.Missed.{misses, IsNoted, StaysNoted, HoldBut}
use Rattle.plan_stage.specs.Partition.{Test, step_clauses}
use Rattle.plan_stage.specs.Each.{step_at}
use Rattle.plan_stage.specs.Looking.Concerned.{is_concerned, AreConcerned}
use Rattle.plan_stage.specs.Looking.Looked.{clauses_at}
use Rattle.plan_stage.proofs.Below.{met}
use Rattle.plan_stage.proofs.Holders.{told}
use Rattle.plan_stage.proofs.Looking.{unconcerned}

-- clauses that hold by what is noted hold by more
pub hold-wider : (a b : Missed) (cs : List Guard) → StaysNoted a b → HoldBut a cs → HoldBut b cs
hold-wider a b [] s h = refl
hold-wider a b (c ∷ cs) s h =
    let p = and_parts (c.0 || misses a c.1) (list_all (λ g. g.0 || misses a g.1) cs) h in
    and_from (c.0 || misses b c.1) (list_all (λ g. g.0 || misses b g.1) cs)
    (elim (or_cases c.0 (misses a c.1) p.0) [
      | inl e ↦ or_left c.0 (misses b c.1) e
      | inr e ↦ or_right c.0 (misses b c.1) (s c.1 e)
    ]) (hold-wider a b cs s p.1)

-- clauses of which none fails hold, whatever is noted
pub none-holds : (a : Missed) (cs : List Guard) → first_failing cs ≡ None → HoldBut a cs
none-holds a [] h = refl
none-holds a (c ∷ cs) h =
    let m = met c.0 c.1 (first_failing cs) h in
    and_from (c.0 || misses a c.1) (list_all (λ g. g.0 || misses a g.1) cs) (or_left c.0 (misses a c.1) m.0) (none-holds a cs m.1)

-- ---- the clauses of one step, once the first that fails is noted

mirror-noted : (a : Missed) (b c : Bool) (n : ℕ) (r : Refusal) → IsNoted a r → first_failing ((b, SharedInPlan n) ∷ (c, NotJoined n) ∷ []) ≡ Some r
    → HoldBut a ((b, SharedInPlan n) ∷ (c, NotJoined n) ∷ [])
mirror-noted a true true n r noted h = absurd cc
mirror-noted a true false n r noted h =
    let e : NotJoined n ≡ r = cc in
    let f : a.joined ≡ true = subst (IsNoted a) (sym e) noted in
    rw f refl
mirror-noted a false c n r noted h =
    let e : SharedInPlan n ≡ r = cc in
    let f : (a.left ≡ true) × (a.joined ≡ true) = subst (IsNoted a) (sym e) noted in
    rw f.0 (and_from (c || a.joined) true (or_right c a.joined f.1) refl)

copy-noted : (a : Missed) (b c : Bool) (n : ℕ) (r : Refusal) → IsNoted a r → first_failing ((b, BadSource n) ∷ (c, MovingSource n) ∷ []) ≡ Some r
    → HoldBut a ((b, BadSource n) ∷ (c, MovingSource n) ∷ [])
copy-noted a true true n r noted h = absurd cc
copy-noted a true false n r noted h =
    let e : MovingSource n ≡ r = cc in
    let f : a.settled ≡ true = subst (IsNoted a) (sym e) noted in
    rw f refl
copy-noted a false c n r noted h =
    let e : BadSource n ≡ r = cc in
    let f : (a.sources ≡ true) × (a.settled ≡ true) = subst (IsNoted a) (sym e) noted in
    rw f.0 (and_from (c || a.settled) true (or_right c a.settled f.1) refl)

retire-noted : (a : Missed) (b : Bool) (n : ℕ) (r : Refusal) → IsNoted a r → first_failing ((b, RetiredInUse n) ∷ []) ≡ Some r → HoldBut a ((b, RetiredInUse n) ∷ [])
retire-noted a true n r noted h = absurd cc
retire-noted a false n r noted h =
    let e : RetiredInUse n ≡ r = cc in
    let f : a.dropped ≡ true = subst (IsNoted a) (sym e) noted in
    rw f refl

-- clauses that are asked only in some partition
asked : (a : Missed) (b : Bool) (cs : List Guard) (r : Refusal) → (first_failing cs ≡ Some r → HoldBut a cs) → first_failing (cond b cs []) ≡ Some r → HoldBut a (cond b cs [])
asked a true cs r f h = f h
asked a false cs r f h = refl

pub step-noted : (ring : RingValue) (plan : List Planned) (O : Test) (a : Missed) (p n : ℕ) (s : Step) (r : Refusal) → IsNoted a r
    → first_failing (step_clauses ring plan O p n s) ≡ Some r → HoldBut a (step_clauses ring plan O p n s)
step-noted ring plan O a p n (Join x) r noted h = absurd cc
step-noted ring plan O a p n (Mirror slot x) r noted h = asked a (slot.partition == p) _ r (mirror-noted a _ _ n r noted) h
step-noted ring plan O a p n (Copy slot Owner) r noted h = absurd cc
step-noted ring plan O a p n (Copy slot (Slots from)) r noted h = asked a (slot.partition == p) _ r (copy-noted a _ _ n r noted) h
step-noted ring plan O a p n (Switch slot) r noted h = absurd cc
step-noted ring plan O a p n (Drop slot x) r noted h = absurd cc
step-noted ring plan O a p n (Retire x) r noted h = retire-noted a _ n r noted h

-- so of the step of that number
pub at-noted : (ring : RingValue) (plan : List Planned) (O : Test) (a : Missed) (p n : ℕ) (r : Refusal) → IsNoted a r
    → first_failing (clauses_at (step_clauses ring plan O p) plan n) ≡ Some r → HoldBut a (clauses_at (step_clauses ring plan O p) plan n)
at-noted ring plan O a p n r noted h = by (step_at plan n) h
  where
    by : (o : Option Step) → first_failing (elim o [ Some s ↦ step_clauses ring plan O p n s | None ↦ [] ]) ≡ Some r
        → HoldBut a (elim o [ Some s ↦ step_clauses ring plan O p n s | None ↦ [] ])
    by None e = absurd cc
    by (Some s) e = step-noted ring plan O a p n s r noted e

-- ---- the steps of these numbers

-- a step more is noted
pub noted-more : (f : ℕ → Step → List Guard) (plan : List Planned) (old new : Missed) (numbers later : List ℕ) (number : ℕ)
    → StaysNoted old new → HoldBut new (clauses_at f plan number)
    → ((n : ℕ) → has n numbers ≡ true → (has n (number ∷ later) ≡ true) ⊎ HoldBut old (clauses_at f plan n))
    → (n : ℕ) → has n numbers ≡ true → (has n later ≡ true) ⊎ HoldBut new (clauses_at f plan n)
noted-more f plan old new numbers later number stays here h n is = elim (h n is) [
  | inl left ↦ elim (or_cases (n == number) (has n later) left) [
    | inl e ↦ inr (subst (λ (k : ℕ). HoldBut new (clauses_at f plan k)) (sym (eqb-true n number e)) here)
    | inr e ↦ inl e
  ]
  | inr held ↦ inr (hold-wider old new (clauses_at f plan n) stays held)
]

-- those that a partition looks at are enough
pub all-noted : (ring : RingValue) (plan : List Planned) (O : Test) (a : Missed) (p : ℕ) (numbers : List ℕ) → AreConcerned ring plan p numbers
    → ((n : ℕ) → has n numbers ≡ true → HoldBut a (clauses_at (step_clauses ring plan O p) plan n))
    → (n : ℕ) (s : Step) → step_at plan n ≡ Some s → HoldBut a (step_clauses ring plan O p n s)
all-noted ring plan O a p numbers are h n s at = elim (told (is_concerned ring plan p s)) [
  | inl is ↦
      subst (λ (o : Option Step). HoldBut a (elim o [ Some t ↦ step_clauses ring plan O p n t | None ↦ [] ])) at (h n (are.all n s at is))
  | inr out ↦ none-holds a (step_clauses ring plan O p n s) (unconcerned ring plan O p n s out)
]
