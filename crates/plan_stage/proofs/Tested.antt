-- The clauses of one step, by its kind.
use Rattle.std.proofs.Common.{◌≡◌, ℕ, true, List, Option, Some, None, refl, ap, ◌∙◌, eq-eqb}
use Rattle.std.specs.Prelude.{◌==◌, option_map, slice_get, []}
use Rattle.ring_names.specs.declared.ids.NodeId.{NodeId}
use Rattle.ring_names.specs.declared.ids.Slot.{Slot}
use Rattle.ring_table.specs.Value.{RingValue}
use Rattle.plan_text.specs.declared.step.Source.{Source}
use Rattle.plan_text.specs.declared.step.Source.TheVariants.{Slots}
use Rattle.plan_text.specs.declared.step.Step.{Step}
use Rattle.plan_text.specs.declared.step.Step.TheVariants.{Mirror, Copy}
use Rattle.plan_text.specs.declared.step.Planned.{Planned}
use Rattle.plan_stage.specs.Clauses.{Guard}
use Rattle.plan_stage.specs.Each.{step_at}
use Rattle.plan_stage.specs.Partition.{Test, mirror_clauses, copy_clauses, step_clauses}
use Rattle.plan_stage.proofs.Places.{step_at-is}
use Rattle.plan_stage.specs.Looking.Looked.{clauses_at}

pub step-is : (plan : List Planned) (n : ℕ) (s t : Step) → option_map (λ (x : Planned). x.step) (slice_get plan n) ≡ Some t → t ≡ s → step_at plan n ≡ Some s
step-is plan n s t e is = step_at-is plan n t e ∙ ap (λ (u : Step). Some u) is

at-step : (f : ℕ → Step → List Guard) (plan : List Planned) (n : ℕ) (s : Step) → step_at plan n ≡ Some s → clauses_at f plan n ≡ f n s
at-step f plan n s at = ap (λ (o : Option Step). elim o [ Some t ↦ f n t | None ↦ [] ]) at

pub at-mirror : (ring : RingValue) (plan : List Planned) (O : Test) (p n : ℕ) (slot : Slot) (x : NodeId) → step_at plan n ≡ Some (Mirror slot x) → slot.partition ≡ p → clauses_at (step_clauses ring plan O p) plan n ≡ mirror_clauses ring plan O n slot x
at-mirror ring plan O p n slot x at e =
    let same : (slot.partition == p) ≡ true = eq-eqb slot.partition p e in
    at-step (step_clauses ring plan O p) plan n (Mirror slot x) at ∙ (rw same refl)

pub at-copy : (ring : RingValue) (plan : List Planned) (O : Test) (p n : ℕ) (slot : Slot) (source : Source) → step_at plan n ≡ Some (Copy slot source) → slot.partition ≡ p → clauses_at (step_clauses ring plan O p) plan n ≡ step_clauses ring plan O slot.partition n (Copy slot source)
at-copy ring plan O p n slot source at e =
    rw (← e) (at-step (step_clauses ring plan O slot.partition) plan n (Copy slot source) at)

pub listed : (ring : RingValue) (plan : List Planned) (O : Test) (n : ℕ) (slot : Slot) (from : List ℕ) → step_clauses ring plan O slot.partition n (Copy slot (Slots from)) ≡ copy_clauses ring plan O n slot from
listed ring plan O n slot from =
    let same : (slot.partition == slot.partition) ≡ true = eq-eqb slot.partition slot.partition refl in
    rw same refl
