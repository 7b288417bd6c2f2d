-- Who is in the group of a slot, and how a step changes it.
use Rattle.std.proofs.Common.{◌≡◌, ◌⊎◌, inl, inr, ◌∙◌, ℕ, zero, suc, ◌+◌, ◌<◌, Bool, true, false, cond, List, [], ◌∷◌, length, refl, sym, ap, subst, arith, add-one, eqb-true, eq-eqb}
use Rattle.std.specs.Prelude.{◌==◌, Option, Some, None, slice_get, unwrap_or}
use Rattle.std.proofs.lemmas.Bool.Decides.{eqb_tells}
use Rattle.std.proofs.lemmas.Bool.{or_right, or_cases}
use Rattle.ring_names.specs.Lists.{has}
use Rattle.ring_names.specs.declared.ids.NodeId.{NodeId}
use Rattle.ring_names.specs.declared.ids.Slot.{Slot}
use Rattle.ring_table.specs.Value.{RingValue}
use Rattle.plan_text.specs.declared.step.Step.{Step}
use Rattle.plan_text.specs.declared.step.Step.TheVariants.{Join, Mirror, Copy, Switch, Drop, Retire}
use Rattle.plan_text.specs.declared.step.Planned.{Planned}
use Rattle.plan_text.specs.Steps.{steps_of, steps_from, is_slot, is_on}
use Rattle.plan_stage.specs.declared.stage.Stage.{Stage}
use Rattle.plan_stage.specs.Stage.{stage, after, next}
use Rattle.plan_stage.proofs.Stages.{stage-more}
use Rattle.plan_runs.specs.World.{World, stage_now, keeps, count, mirrors, is_served, is_in_group}
use Rattle.plan_runs.specs.Effects.{with_number}
use Rattle.plan_stage.specs.Each.{step_at}
use Rattle.plan_runs.proofs.Passing.{some_found}
use Rattle.plan_runs.proofs.Prefix.{found, Rises, Down, one_more, count_same}
use Rattle.plan_stage.proofs.Truth.{slot-is}

-- ---- the group of a slot

abbrev pub Served : Stage → ℕ → Type 0
Served a x = (x ≡ a.owner.0) ⊎ (a.mirror ≡ Some (record { 0 = x }))

abbrev pub Keeps : World → ℕ → Slot → Type 0
Keeps w x slot = (v : ℕ) × (v < length w.puts) × (w.hinted x slot v ≡ true)

abbrev pub InGroup : RingValue → List Planned → World → Slot → ℕ → Type 0
InGroup ring plan w slot x = Served (stage_now ring plan w slot) x ⊎ Keeps w x slot

mirror_is : (o : Option NodeId) (x : ℕ) → (elim o [ Some y ↦ x == y.0 | None ↦ false ]) ≡ true → o ≡ Some (record { 0 = x })
mirror_is None x h = absurd cc
mirror_is (Some y) x h = ap (λ (k : ℕ). Some (record { 0 = k })) (sym (eqb-true x y.0 h))

pub served_by : (a : Stage) (x : ℕ) → is_served a x ≡ true → Served a x
served_by a x h = elim (or_cases (x == a.owner.0) (mirrors a x) h) [
  | inl f ↦ inl (eqb-true x a.owner.0 f)
  | inr f ↦ inr (mirror_is a.mirror x f)
]

pub served_is : (a : Stage) (x : ℕ) → Served a x → is_served a x ≡ true
served_is a x h = elim h [
  | inl e ↦ rw (eq-eqb x a.owner.0 e) refl
  | inr e ↦ or_right (x == a.owner.0) (mirrors a x) (rw e (eq-eqb x x refl))
]

pub in_group : (ring : RingValue) (plan : List Planned) (w : World) (slot : Slot) (x : ℕ) → is_in_group ring plan w slot x ≡ true → InGroup ring plan w slot x
in_group ring plan w slot x h = elim (or_cases (is_served (stage_now ring plan w slot) x) (keeps w x slot) h) [
  | inl f ↦ inl (served_by (stage_now ring plan w slot) x f)
  | inr f ↦ inr (some_found (length w.puts) (λ v. w.hinted x slot v) f)
]

-- ---- one step

next_served : (a : Stage) (t : Step) (x : ℕ) → Served (next a t) x → Served a x ⊎ ((s : Slot) × (t ≡ Mirror s (record { 0 = x })))
next_served a (Join y) x h = inl h
next_served a (Mirror s y) x h = elim h [
  | inl e ↦ inl (inl e)
  | inr e ↦ inr (s, (let f : y ≡ record { 0 = x } = cc in ap (Mirror s) f))
]
next_served a (Copy s from) x h = inl h
next_served a (Switch s) x h = elim h [
  | inl e ↦ inl (by a.mirror refl e)
  | inr e ↦ absurd cc
]
  where
    by : (m : Option NodeId) → a.mirror ≡ m → x ≡ (unwrap_or m a.owner).0 → Served a x
    by None e f = inl f
    by (Some y) e f = inr (e ∙ ap (λ (k : ℕ). Some (record { 0 = k })) (sym f))
next_served a (Drop s y) x h = inl h
next_served a (Retire y) x h = inl h

after_served : (a : Stage) (x : ℕ) (o : Option Planned) → Served (elim o [ Some y ↦ next a y.step | None ↦ a ]) x
    → Served a x ⊎ ((s : Slot) × ((elim o [ Some y ↦ Some y.step | None ↦ None ]) ≡ Some (Mirror s (record { 0 = x }))))
after_served a x None h = inl h
after_served a x (Some y) h = elim (next_served a y.step x h) [
  | inl f ↦ inl f
  | inr f ↦ inr (f.0, ap (λ (t : Step). Some t) f.1)
]

-- ---- the steps of a slot

-- and each of its steps is on it
pub steps_on : (k m : ℕ) (plan : List Planned) (slot : Slot) → has m (steps_from k plan slot) ≡ true → (n : ℕ) × (t : Step) × (m ≡ k + n) × (step_at plan n ≡ Some t) × (is_on slot t ≡ true)
steps_on k m [] slot h = absurd cc
steps_on k m (x ∷ xs) slot h = by (is_on slot x.step) refl h (λ g. let r = steps_on (k + 1) m xs slot g in let e = r.2 in (suc r.0, r.1, omega arith, r.3, r.4))
  where
    by : (b : Bool) → is_on slot x.step ≡ b → has m (cond b (k ∷ steps_from (k + 1) xs slot) (steps_from (k + 1) xs slot)) ≡ true
        → (has m (steps_from (k + 1) xs slot) ≡ true → (n : ℕ) × (t : Step) × (m ≡ k + n) × (step_at (x ∷ xs) n ≡ Some t) × (is_on slot t ≡ true))
        → (n : ℕ) × (t : Step) × (m ≡ k + n) × (step_at (x ∷ xs) n ≡ Some t) × (is_on slot t ≡ true)
    by false e g later = later g
    by true e g later = elim (or_cases (m == k) (has m (steps_from (k + 1) xs slot)) g) [
      | inl f ↦ (zero, x.step, (let s = eqb-true m k f in omega arith), refl, e)
      | inr f ↦ later f
    ]

-- a mirror step among the slot's mirrors that slot
mirrors_it : (plan : List Planned) (slot s : Slot) (n : ℕ) (x : NodeId) → has n (steps_of plan slot) ≡ true → step_at plan n ≡ Some (Mirror s x) → step_at plan n ≡ Some (Mirror slot x)
mirrors_it plan slot s n x h e =
    let r = steps_on 0 n plan slot h in
    let at : n ≡ r.0 = (let z = r.2 in omega arith) in
    let is : Some (Mirror s x) ≡ Some r.1 = sym e ∙ ap (step_at plan) at ∙ r.3 in
    let t : r.1 ≡ Mirror s x = cc in
    let on : is_slot slot s ≡ true = rw t at r.4 in
    rw (slot-is slot s on) e

-- ---- who serves once step n is done

pub moved : (ring : RingValue) (plan : List Planned) (slot : Slot) (D : ℕ → Bool) (n x : ℕ) → Rises (steps_of plan slot) → Down D (steps_of plan slot) → Down (with_number D n) (steps_of plan slot)
    → Served (stage ring plan slot (count (with_number D n) (steps_of plan slot))) x
    → Served (stage ring plan slot (count D (steps_of plan slot))) x ⊎ (step_at plan n ≡ Some (Mirror slot (record { 0 = x })))
moved ring plan slot D n x r d e h = by (D n) (has n (steps_of plan slot)) refl refl
  where
    unchanged : ((m : ℕ) → has m (steps_of plan slot) ≡ true → with_number D n m ≡ D m) → Served (stage ring plan slot (count D (steps_of plan slot))) x ⊎ (step_at plan n ≡ Some (Mirror slot (record { 0 = x })))
    unchanged f = inl (subst (λ (k : ℕ). Served (stage ring plan slot k) x) (count_same D (with_number D n) (steps_of plan slot) f) h)

    by : (b c : Bool) → D n ≡ b → has n (steps_of plan slot) ≡ c → Served (stage ring plan slot (count D (steps_of plan slot))) x ⊎ (step_at plan n ≡ Some (Mirror slot (record { 0 = x })))
    by true c f g = unchanged (λ m i. elim (eqb_tells m n) [ inl t ↦ (let z : D m ≡ true = ap D t.1 ∙ f in rw (t.0, z) refl) | inr t ↦ rw (t.0) refl ])
    by false false f g = unchanged (λ m i. elim (eqb_tells m n) [ inl t ↦ absurd (let z = ap (λ k. has k (steps_of plan slot)) t.1 in cc) | inr t ↦ rw (t.0) refl ])
    by false true f g =
        let p = found n (steps_of plan slot) g in
        let c = one_more D n p.0 (steps_of plan slot) r d e f p.1 p.2 in
        let old : Served (stage ring plan slot (suc p.0)) x = subst (λ (k : ℕ). Served (stage ring plan slot k) x) c.1 h in
        let more : stage ring plan slot (suc p.0) ≡ after plan (stage ring plan slot p.0) n = ap (stage ring plan slot) (sym (add-one p.0)) ∙ stage-more ring plan slot p.0 p.1 ∙ ap (after plan (stage ring plan slot p.0)) p.2 in
        elim (after_served (stage ring plan slot p.0) x (slice_get plan n) (subst (λ (a : Stage). Served a x) more old)) [
          | inl s ↦ inl (subst (λ (k : ℕ). Served (stage ring plan slot k) x) (sym c.0) s)
          | inr s ↦ inr (mirrors_it plan slot s.0 n (record { 0 = x }) g s.1)
        ]
