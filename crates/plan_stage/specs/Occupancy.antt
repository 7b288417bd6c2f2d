-- How long a node serves a slot, and how long it holds versions of it.
use Rattle.std.specs.Prelude.{ℕ, suc, Bool, false, not, ◌&&◌, ◌==◌, List, [], ◌∷◌, Option, Some, None, slice_get, drop, if◌then◌else◌}
use Rattle.ring_names.specs.declared.ids.NodeId.{NodeId}
use Rattle.ring_names.specs.declared.ids.Slot.{Slot}
use Rattle.ring_table.specs.Value.{RingValue}
use Rattle.plan_text.specs.declared.step.Step.{Step}
use Rattle.plan_text.specs.declared.step.Step.TheVariants.{Join, Mirror, Copy, Switch, Drop, Retire}
use Rattle.plan_text.specs.declared.step.Planned.{Planned}
use Rattle.plan_text.specs.Steps.{steps_of, is_slot}
use Rattle.plan_stage.specs.declared.stage.Stage.{Stage}
use Rattle.plan_stage.specs.Stage.{opening, stage, after}

-- whether it is the same node
abbrev pub is_node : NodeId → NodeId → Bool
is_node x y = x.0 == y.0

-- the first of these steps, which act from the stage on, after which the node no longer owns the slot that it owned
abbrev pub leaving : List Planned → NodeId → Stage → List ℕ → Option ℕ
leaving plan x a [] = None
leaving plan x a (s ∷ ss) = if is_node x a.owner && not (is_node x (after plan a s).owner) then Some s else leaving plan x (after plan a s) ss

-- whether the step drops what the node has of the slot
abbrev pub is_drop_of : NodeId → Slot → Step → Bool
is_drop_of x slot (Join y) = false
is_drop_of x slot (Mirror t y) = false
is_drop_of x slot (Copy t from) = false
is_drop_of x slot (Switch t) = false
is_drop_of x slot (Drop t y) = is_slot slot t && is_node x y
is_drop_of x slot (Retire y) = false

-- the first of these steps in which the node drops what it has of the slot
abbrev pub dropping : List Planned → NodeId → Slot → List ℕ → Option ℕ
dropping plan x slot [] = None
dropping plan x slot (s ∷ ss) = elim (slice_get plan s) [
  | Some step ↦ if is_drop_of x slot step.step then Some s else dropping plan x slot ss
  | None ↦ dropping plan x slot ss
]

-- the step at which the occupancy of the first owner ends
abbrev pub first_end : RingValue → List Planned → Slot → Option ℕ
first_end ring plan slot = leaving plan (opening ring slot).owner (opening ring slot) (steps_of plan slot)

-- the step at which that of the node ends which the slot's k-th step mirrors
abbrev pub mirror_end : RingValue → List Planned → Slot → ℕ → NodeId → Option ℕ
mirror_end ring plan slot k x = leaving plan x (stage ring plan slot (suc k)) (drop (suc k) (steps_of plan slot))

-- the step at which the holding of the first owner ends
abbrev pub first_drop : RingValue → List Planned → Slot → Option ℕ
first_drop ring plan slot = dropping plan (opening ring slot).owner slot (steps_of plan slot)

-- the step at which that of the node ends which the slot's k-th step mirrors
abbrev pub mirror_drop : List Planned → Slot → ℕ → NodeId → Option ℕ
mirror_drop plan slot k x = dropping plan x slot (drop (suc k) (steps_of plan slot))
