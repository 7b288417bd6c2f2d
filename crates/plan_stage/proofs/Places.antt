-- Each of a slot's steps acts on the slot, and fits the stage after the steps before it.
use Rattle.std.proofs.Common.{◌≡◌, ◌∙◌, ℕ, zero, suc, ◌+◌, ◌<◌, Bool, true, false, cond, List, [], ◌∷◌, length, get_or, take, Option, Some, None, refl, sym, ap, subst, arith}
use Rattle.std.specs.Prelude.{slice_get, fold, option_map}
use Rattle.ring_names.specs.declared.ids.Slot.{Slot}
use Rattle.ring_table.specs.Value.{RingValue}
use Rattle.plan_text.specs.declared.step.Step.{Step}
use Rattle.plan_text.specs.declared.step.Planned.{Planned}
use Rattle.plan_text.specs.Steps.{is_on, steps_from, steps_of}
use Rattle.plan_stage.specs.declared.stage.Stage.{Stage}
use Rattle.plan_stage.specs.Stage.{after, fits, fits_at, opening}
use Rattle.plan_stage.specs.Clauses.{IsStagedSlot}
use Rattle.plan_stage.specs.Each.{step_at}
use Rattle.plan_stage.proofs.Stages.{fits_at-fits}

on_at : (n : ℕ) (xs : List Planned) (slot : Slot) (i : ℕ) → i < length (steps_from n xs slot) → (m : ℕ) × (get_or (steps_from n xs slot) i 0 ≡ n + m) × ((x : Planned) × (slice_get xs m ≡ Some x) × (is_on slot x.step ≡ true))
on_at n [] slot i h = absurd (omega arith)
on_at n (y ∷ ys) slot i h = by (is_on slot y.step) refl i h (λ j l. on_at (n + 1) ys slot j l)
  where
    by : (b : Bool) → is_on slot y.step ≡ b → (i : ℕ) → i < length (cond b (n ∷ steps_from (n + 1) ys slot) (steps_from (n + 1) ys slot))
        → ((j : ℕ) → j < length (steps_from (n + 1) ys slot) → (m : ℕ) × (get_or (steps_from (n + 1) ys slot) j 0 ≡ (n + 1) + m) × ((x : Planned) × (slice_get ys m ≡ Some x) × (is_on slot x.step ≡ true)))
        → (m : ℕ) × (get_or (cond b (n ∷ steps_from (n + 1) ys slot) (steps_from (n + 1) ys slot)) i 0 ≡ n + m) × ((x : Planned) × (slice_get (y ∷ ys) m ≡ Some x) × (is_on slot x.step ≡ true))
    by true e zero l more = (0, omega arith, (y, refl, e))
    by true e (suc j) l more = let r = more j (omega arith) in let at = r.1 in (suc r.0, omega arith, (r.2.0, r.2.1, r.2.2))
    by false e j l more = let r = more j l in let at = r.1 in (suc r.0, omega arith, (r.2.0, r.2.1, r.2.2))

-- the step at the place among the slot's steps
pub placed : (plan : List Planned) (slot : Slot) (i : ℕ) → i < length (steps_of plan slot) → (x : Planned) × (slice_get plan (get_or (steps_of plan slot) i 0) ≡ Some x) × (is_on slot x.step ≡ true)
placed plan slot i h =
    let r = on_at 0 plan slot i h in
    let number : get_or (steps_of plan slot) i 0 ≡ r.0 = (let at = r.1 in omega arith) in
    (r.2.0, subst (λ (m : ℕ). slice_get plan m ≡ Some r.2.0) (sym number) r.2.1, r.2.2)

-- a test's step, as the plan has it
pub step_at-is : (plan : List Planned) (b : ℕ) (t : Step) → option_map (λ (x : Planned). x.step) (slice_get plan b) ≡ Some t → step_at plan b ≡ Some t
step_at-is plan b t e = by (slice_get plan b) e
  where
    by : (o : Option Planned) → option_map (λ (x : Planned). x.step) o ≡ Some t → (elim o as (λ _. Option Step) [ Some x ↦ Some x.step | None ↦ None ]) ≡ Some t
    by None e = absurd cc
    by (Some x) e = cc

-- from the stage on, these are steps of the slot, and each fits
abbrev pub Acts : List Planned → Slot → Stage → List ℕ → Type 0
Acts plan slot a [] = Unit {0}
Acts plan slot a (b ∷ bs) = ((x : Planned) × (slice_get plan b ≡ Some x) × (is_on slot x.step ≡ true) × (fits a x.step ≡ true)) × Acts plan slot (after plan a b) bs

acts_from : (plan : List Planned) (slot : Slot) (a : Stage) (bs : List ℕ)
    → ((k : ℕ) → k < length bs → (x : Planned) × (slice_get plan (get_or bs k 0) ≡ Some x) × (is_on slot x.step ≡ true))
    → ((k : ℕ) → k < length bs → fits_at plan (fold (after plan) a (take k bs)) (get_or bs k 0) ≡ true)
    → Acts plan slot a bs
acts_from plan slot a [] on fit = tt
acts_from plan slot a (b ∷ bs) on fit =
    let p = on 0 (omega arith) in
    let at : option_map (λ (x : Planned). x.step) (slice_get plan b) ≡ Some p.0.step = ap (λ (o : Option Planned). option_map (λ (x : Planned). x.step) o) p.1 in
    ((p.0, p.1, p.2, sym (fits_at-fits plan a b p.0.step at) ∙ fit 0 (omega arith)), acts_from plan slot (after plan a b) bs (λ k l. on (suc k) (omega arith)) (λ k l. fit (suc k) (omega arith)))

-- so do all steps of a slot that is staged
pub acts : (ring : RingValue) (plan : List Planned) (slot : Slot) → IsStagedSlot ring plan slot → Acts plan slot (opening ring slot) (steps_of plan slot)
acts ring plan slot staged = acts_from plan slot (opening ring slot) (steps_of plan slot) (placed plan slot) staged
