-- How the steps of a plan change the slots that are kept.
use Rattle.std.specs.Prelude.{◌≡◌, ◌+◌, Bool, true, false, List, Some, None, option_map, if◌then◌else◌}
use Rattle.ring_names.specs.declared.ids.Slot.{Slot}
use Rattle.plan_text.specs.declared.step.Step.{Step}
use Rattle.plan_text.specs.declared.step.Step.TheVariants as step
use Rattle.plan_text.specs.declared.step.Planned.{Planned}
use Rattle.plan_text.specs.Steps.{is_on}
use Rattle.plan_stage.specs.Each.{step_at}
use Rattle.plan_runs.specs.declared.event.Event.{Event}
use Rattle.plan_runs.specs.declared.event.Event.TheVariants.{Do, Lose}
use Rattle.store_parts.specs.declared.slots.SlotNow.{SlotNow}
use Rattle.store_parts.specs.Slots.{slot_now, switched}

-- a slot after one of its steps. A mirror step sets the mirror and the next generation, and by a switch the
-- mirror owns the slot
abbrev pub stepped : SlotNow → Step → SlotNow
stepped a (step.Join x) = a
stepped a (step.Mirror s x) = record a { mirror = Some x; generation = a.generation + 1 }
stepped a (step.Copy s from) = a
stepped a (step.Switch s) = switched a
stepped a (step.Drop s x) = a
stepped a (step.Retire x) = a

-- the step's slot changes so, and every other slot is as before
abbrev pub StepsSlots : List (List SlotNow) → List (List SlotNow) → Step → Type 0
StepsSlots old new s = (t : Slot) → slot_now new t ≡ (if is_on t s then option_map (λ a. stepped a s) (slot_now old t) else slot_now old t)

-- whether the step leaves the slots as they are: it neither mirrors nor switches one
abbrev pub step_leaves_slots : Step → Bool
step_leaves_slots (step.Mirror s x) = false
step_leaves_slots (step.Switch s) = false
step_leaves_slots s = true

-- whether the event leaves them so
abbrev pub leaves_slots : List Planned → Event → Bool
leaves_slots plan (Do n) = elim (step_at plan n) [ Some s ↦ step_leaves_slots s | None ↦ true ]
leaves_slots plan (Lose x) = false
leaves_slots plan e = true
