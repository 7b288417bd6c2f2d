-- What a step that is done makes of the stages of slots.
use Rattle.std.proofs.Common.{◌≡◌, ◌∙◌, ℕ, suc, inl, inr, Bool, true, false, List, get_or, Option, Some, None, refl, sym, ap, subst, arith, add-one}
use Rattle.std.specs.Prelude.{slice_get, option_map}
use Rattle.std.proofs.lemmas.Bool.Decides.{eqb_tells}
use Rattle.ring_names.specs.Lists.{has}
use Rattle.ring_names.specs.declared.ids.Slot.{Slot}
use Rattle.ring_table.specs.Value.{RingValue}
use Rattle.plan_text.specs.declared.step.Step.{Step}
use Rattle.plan_text.specs.declared.step.Planned.{Planned}
use Rattle.plan_text.specs.Steps.{steps_of, is_on}
use Rattle.plan_stage.specs.Stage.{stage, next, fits}
use Rattle.plan_stage.specs.Each.{step_at}
use Rattle.plan_stage.proofs.Stages.{after-next, fits_at-fits, stage-more}
use Rattle.plan_runs.specs.World.{count}
use Rattle.plan_runs.specs.Effects.{with_number}
use Rattle.plan_runs.specs.Reached.{Ready, Closed}
use Rattle.plan_runs.proofs.Prefix.{found, one_more, count_same}
use Rattle.plan_check.proofs.Mirrored.{Known, rises, down}
use Rattle.plan_runs.proofs.Groups.{steps_on}
use Rattle.plan_runs.proofs.Copying.{closed_with}
use Rattle.plan_stage.proofs.Holders.{has-step}

-- and each of its steps is on it
pub on_it : (plan : List Planned) (slot : Slot) (n : ℕ) (t : Step) → step_at plan n ≡ Some t → has n (steps_of plan slot) ≡ true → is_on slot t ≡ true
on_it plan slot n t at h =
    let r = steps_on 0 n plan slot h in
    let same : n ≡ r.0 = (let z = r.2 in omega arith) in
    let is : Some t ≡ Some r.1 = sym at ∙ ap (step_at plan) same ∙ r.3 in
    let e : t ≡ r.1 = cc in
    ap (is_on slot) e ∙ r.4

-- a step that is on no slot of ours leaves what is counted of its steps
pub count_left : (D : ℕ → Bool) (n : ℕ) (ss : List ℕ) → (has n ss ≡ true → ⊥) → count (with_number D n) ss ≡ count D ss
count_left D n ss out = count_same D (with_number D n) ss (λ m i. elim (eqb_tells m n) [
  | inl t ↦ absurd (out (subst (λ z. has z ss ≡ true) t.1 i))
  | inr t ↦ rw t.0 refl
])

-- the step of a number, read in two ways
pub mapped : (o : Option Planned) (t : Step) → (elim o as (λ _. Option Step) [ Some z ↦ Some z.step | None ↦ None ]) ≡ Some t
    → option_map (λ (z : Planned). z.step) o ≡ Some t
mapped None t e = absurd cc
mapped (Some z) t e = e

-- the stage after a step of the slot that is done now, and that the step fits the one before it
pub stage_done : (ring : RingValue) (plan : List Planned) → Known ring plan → (D : ℕ → Bool) (n : ℕ) (t : Step) (slot : Slot) → Closed plan D
    → Ready plan D n → D n ≡ false → step_at plan n ≡ Some t → is_on slot t ≡ true
    → (stage ring plan slot (count (with_number D n) (steps_of plan slot)) ≡ next (stage ring plan slot (count D (steps_of plan slot))) t)
    × (fits (stage ring plan slot (count D (steps_of plan slot))) t ≡ true)
stage_done ring plan k D n t slot c y off at on =
    let ss = steps_of plan slot in
    let p = found n ss (has-step plan slot n t at on) in
    let e = one_more D n p.0 ss (rises ring plan k slot) (down ring plan k D c slot) (down ring plan k (with_number D n) (closed_with plan D n c y) slot) off
    p.1 p.2 in
    let is : option_map (λ (z : Planned). z.step) (slice_get plan (get_or ss p.0 0)) ≡ Some t = mapped (slice_get plan (get_or ss p.0 0)) t
    (ap (step_at plan) p.2 ∙ at) in
    let more : stage ring plan slot (suc p.0) ≡ next (stage ring plan slot p.0) t = ap (stage ring plan slot) (sym (add-one p.0)) ∙ stage-more ring plan slot
    p.0 p.1 ∙ after-next plan (stage ring plan slot p.0) (get_or ss p.0 0) t is in
    let fit : fits (stage ring plan slot p.0) t ≡ true = sym (fits_at-fits plan (stage ring plan slot p.0) (get_or ss p.0 0) t is) ∙ k.in_turn.staged slot p.0
    p.1 in (
      ap (stage ring plan slot) e.1 ∙ more ∙ ap (λ (j : ℕ). next (stage ring plan slot j) t) (sym e.0),
      ap (λ (j : ℕ). fits (stage ring plan slot j) t) e.0
          ∙ fit,
    )
