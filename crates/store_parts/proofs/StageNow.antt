-- The stage of a slot and how many mirrors it had, once one more step is finished.
use Rattle.std.proofs.Common.{◌≡◌, inl, inr, ◌∙◌, ℕ, ◌+◌, Bool, true, false, cond, List, refl, sym, ap, subst, arith, add-one}
use Rattle.std.specs.Prelude.{◌&&◌, Option, Some, None, slice_get, option_map, option_and_then, is_some}
use Rattle.std.proofs.lemmas.Bool.Decides.{eqb_tells}
use Rattle.ring_names.specs.Lists.{has}
use Rattle.ring_names.specs.declared.ids.Slot.{Slot}
use Rattle.ring_table.specs.Value.{RingValue}
use Rattle.plan_text.specs.declared.step.Step.{Step}
use Rattle.plan_text.specs.declared.step.Planned.{Planned}
use Rattle.plan_text.specs.Steps.{steps_of, is_on, mirror_of}
use Rattle.plan_stage.specs.Stage.{stage, after, next}
use Rattle.plan_stage.specs.Each.{step_at}
use Rattle.plan_stage.proofs.Stages.{stage-more, after-next}
use Rattle.plan_runs.specs.World.{count, mirror_at}
use Rattle.plan_runs.specs.Effects.{with_number}
use Rattle.plan_runs.specs.Reached.{Closed}
use Rattle.plan_runs.proofs.Groups.{steps_on}
use Rattle.plan_check.proofs.Mirrored.{Known, rises, down}
use Rattle.plan_runs.proofs.Prefix.{found, one_more, count_same}
use Rattle.store_parts.proofs.StageCounts.{count_apart, count_failing, count_one}
use Rattle.plan_stage.proofs.Holders.{has-from}

-- ---- which steps are the slot's

-- the step of that number, as the plan has it
planned_at : (plan : List Planned) (n : ℕ) (s : Step) → step_at plan n ≡ Some s → option_map (λ (x : Planned). x.step) (slice_get plan n) ≡ Some s
planned_at plan n s at = by (slice_get plan n) at
  where
    by : (o : Option Planned) → ◌≡◌ {A = Option Step} (elim o [ Some x ↦ Some x.step | None ↦ None ]) (Some s) → option_map (λ (x : Planned). x.step) o ≡ Some s
    by None e = absurd cc
    by (Some x) e = e

-- a step on the slot is among its steps
among : (plan : List Planned) (n : ℕ) (s : Step) (slot : Slot) → step_at plan n ≡ Some s → is_on slot s ≡ true → has n (steps_of plan slot) ≡ true
among plan n s slot at on = (let z : 0 + n ≡ n = omega arith in subst (λ (m : ℕ). has m (steps_of plan slot) ≡ true) z (has-from 0 n plan slot s at on))

-- one that is not on it is not
apart : (plan : List Planned) (n : ℕ) (s : Step) (slot : Slot) → step_at plan n ≡ Some s → is_on slot s ≡ false → has n (steps_of plan slot) ≡ false
apart plan n s slot at off = by (has n (steps_of plan slot)) refl
  where
    by : (b : Bool) → has n (steps_of plan slot) ≡ b → b ≡ false
    by false e = refl
    by true e =
        let r = steps_on 0 n plan slot e in
        let m : n ≡ r.0 = (let z = r.2 in omega arith) in
        let is : Some s ≡ Some r.1 = sym at ∙ ap (step_at plan) m ∙ r.3 in
        let t : s ≡ r.1 = cc in
        absurd (let f = ap (is_on slot) t in let g = r.4 in cc)

-- ---- the stage

-- after a step of the slot it is the next one with that step
pub stage_on : (ring : RingValue) (plan : List Planned) → Known ring plan → (D : ℕ → Bool) (n : ℕ) (s : Step) (slot : Slot) → Closed plan D → Closed plan (with_number D n) → D n ≡ false → step_at plan n ≡ Some s → is_on slot s ≡ true
    → stage ring plan slot (count (with_number D n) (steps_of plan slot)) ≡ next (stage ring plan slot (count D (steps_of plan slot))) s
stage_on ring plan k D n s slot c d off at on =
    let ss = steps_of plan slot in
    let p = found n ss (among plan n s slot at on) in
    let o = one_more D n p.0 ss (rises ring plan k slot) (down ring plan k D c slot) (down ring plan k (with_number D n) d slot) off p.1 p.2 in
    ap (stage ring plan slot) (o.1 ∙ sym (add-one p.0)) ∙ stage-more ring plan slot p.0 p.1 ∙ ap (after plan (stage ring plan slot p.0)) p.2
    ∙ after-next plan (stage ring plan slot p.0) n s (planned_at plan n s at) ∙ ap (λ (j : ℕ). next (stage ring plan slot j) s) (sym o.0)

-- after another step it is as before
pub stage_off : (ring : RingValue) (plan : List Planned) (D : ℕ → Bool) (n : ℕ) (s : Step) (slot : Slot) → step_at plan n ≡ Some s → is_on slot s ≡ false
    → stage ring plan slot (count (with_number D n) (steps_of plan slot)) ≡ stage ring plan slot (count D (steps_of plan slot))
stage_off ring plan D n s slot at off = ap (stage ring plan slot) (count_same D (with_number D n) (steps_of plan slot) (λ m h. elim (eqb_tells m n) [
  | inl t ↦ absurd (let z : has m (steps_of plan slot) ≡ has n (steps_of plan slot) = ap (λ j. has j (steps_of plan slot)) t.1 in let o = apart plan n s slot at off in cc)
  | inr t ↦ rw (t.0) refl
]))

-- ---- the mirrors

abbrev is_mirror : List Planned → ℕ → Bool
is_mirror plan n = is_some (mirror_at plan n)

-- a step of the slot that mirrors it is one more, any other none
pub mirrors_on : (ring : RingValue) (plan : List Planned) → Known ring plan → (D : ℕ → Bool) (n : ℕ) (s : Step) (slot : Slot) → D n ≡ false → step_at plan n ≡ Some s → is_on slot s ≡ true
    → count (λ m. with_number D n m && is_mirror plan m) (steps_of plan slot)
    ≡ cond (is_some (mirror_of s)) (count (λ m. D m && is_mirror plan m) (steps_of plan slot) + 1) (count (λ m. D m && is_mirror plan m) (steps_of plan slot))
mirrors_on ring plan k D n s slot off at on = by (is_some (mirror_of s)) refl
  where
    same : is_mirror plan n ≡ is_some (mirror_of s)
    same = ap (λ (o : Option Step). is_some (option_and_then mirror_of o)) at

    by : (b : Bool) → is_some (mirror_of s) ≡ b → count (λ m. with_number D n m && is_mirror plan m) (steps_of plan slot)
        ≡ cond b (count (λ m. D m && is_mirror plan m) (steps_of plan slot) + 1) (count (λ m. D m && is_mirror plan m) (steps_of plan slot))
    by true e = count_one D (is_mirror plan) n (steps_of plan slot) (rises ring plan k slot) (among plan n s slot at on) off (same ∙ e)
    by false e = count_failing D (is_mirror plan) n (steps_of plan slot) (same ∙ e)

-- a step that is not the slot's is none
pub mirrors_off : (plan : List Planned) (D : ℕ → Bool) (n : ℕ) (s : Step) (slot : Slot) → step_at plan n ≡ Some s → is_on slot s ≡ false
    → count (λ m. with_number D n m && is_mirror plan m) (steps_of plan slot) ≡ count (λ m. D m && is_mirror plan m) (steps_of plan slot)
mirrors_off plan D n s slot at off = count_apart D (is_mirror plan) n (steps_of plan slot) (apart plan n s slot at off)
