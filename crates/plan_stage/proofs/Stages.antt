-- The stage after one more step.
use Rattle.std.proofs.Common.{◌≡◌, ℕ, ◌+◌, ◌<◌, List, length, take, get_or, sym, ap, ◌∙◌}
use Rattle.std.specs.Prelude.{false, Option, Some, None, option_map, slice_get, fold}
use Rattle.std.proofs.lemmas.List.{take_more}
use Rattle.std.proofs.lemmas.List.Sums.{fold_push}
use Rattle.ring_names.specs.declared.ids.Slot.{Slot}
use Rattle.ring_table.specs.Value.{RingValue}
use Rattle.plan_text.specs.declared.step.Step.{Step}
use Rattle.plan_text.specs.declared.step.Planned.{Planned}
use Rattle.plan_text.specs.Steps.{steps_of}
use Rattle.plan_stage.specs.declared.stage.Stage.{Stage}
use Rattle.plan_stage.specs.Clauses.{first_failing}
use Rattle.plan_stage.specs.Partition.{Test, met_clauses, slot_step_clauses}
use Rattle.plan_stage.specs.Stage.{next, fits, after, fits_at, opening, stage}

of_step : (o : Option Planned) (a : Stage) (t : Step) → option_map (λ (x : Planned). x.step) o ≡ Some t → (elim o [ Some x ↦ next a x.step | None ↦ a ]) ≡ next a t
of_step None a t e = absurd cc
of_step (Some x) a t e = let f : x.step ≡ t = cc in ap (next a) f

-- what the step of that number does
pub after-next : (plan : List Planned) (a : Stage) (s : ℕ) (t : Step) → option_map (λ (x : Planned). x.step) (slice_get plan s) ≡ Some t → after plan a s ≡ next a t
after-next plan a s t e = of_step (slice_get plan s) a t e

test_of : (o : Option Planned) (a : Stage) (t : Step) → option_map (λ (x : Planned). x.step) o ≡ Some t → (elim o [ Some x ↦ fits a x.step | None ↦ false ]) ≡ fits a t
test_of None a t e = absurd cc
test_of (Some x) a t e = let f : x.step ≡ t = cc in ap (fits a) f

pub fits_at-fits : (plan : List Planned) (a : Stage) (s : ℕ) (t : Step) → option_map (λ (x : Planned). x.step) (slice_get plan s) ≡ Some t → fits_at plan a s ≡ fits a t
fits_at-fits plan a s t e = test_of (slice_get plan s) a t e

pub stage-more : (ring : RingValue) (plan : List Planned) (slot : Slot) (k : ℕ) → k < length (steps_of plan slot) → stage ring plan slot (k + 1) ≡ after plan (stage ring plan slot k) (get_or (steps_of plan slot) k 0)
stage-more ring plan slot k h =
    ap (fold (after plan) (opening ring slot)) (take_more (steps_of plan slot) k 0 h) ∙ fold_push (after plan) (opening ring slot) (take k (steps_of plan slot)) (get_or (steps_of plan slot) k 0)

-- the stage after a step, from a stage that a walk has reached
pub stage-next : (ring : RingValue) (plan : List Planned) (slot : Slot) (k : ℕ) (a b : Stage) (t : Step) → k < length (steps_of plan slot) → a ≡ stage ring plan slot k → option_map (λ (x : Planned). x.step) (slice_get plan (get_or (steps_of plan slot) k 0)) ≡ Some t → b ≡ next a t → b ≡ stage ring plan slot (k + 1)
stage-next ring plan slot k a b t h e at is =
    is ∙ ap (λ (c : Stage). next c t) e ∙ sym (after-next plan (stage ring plan slot k) (get_or (steps_of plan slot) k 0) t at) ∙ sym (stage-more ring plan slot k h)

-- the clauses of a step, as a walk meets them
pub met-step : (ring : RingValue) (plan : List Planned) (O : Test) (slot : Slot) (k : ℕ) (a : Stage) (numbers : List ℕ) → a ≡ stage ring plan slot k → numbers ≡ steps_of plan slot → first_failing (met_clauses plan O a numbers k) ≡ first_failing (slot_step_clauses ring plan O slot k)
met-step ring plan O slot k a numbers e f =
    ap (λ (b : Stage). first_failing (met_clauses plan O b numbers k)) e ∙ ap (λ (ns : List ℕ). first_failing (met_clauses plan O (stage ring plan slot k) ns k)) f
