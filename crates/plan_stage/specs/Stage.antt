-- The stages through which the steps of a slot take it.
use Rattle.std.specs.Prelude.{ℕ, Bool, true, false, not, ◌&&◌, ◌||◌, ◌==◌, nat_lt, List}
use Rattle.std.specs.Prelude.{[], ◌∷◌, Some, None, slice_get, take, fold, unwrap_or, is_some, if◌then◌else◌}
use Rattle.ring_names.specs.declared.ids.NodeId.{NodeId}
use Rattle.ring_names.specs.declared.ids.Slot.{Slot}
use Rattle.ring_table.specs.Value.{RingValue, owner_of}
use Rattle.plan_text.specs.declared.step.Step.{Step}
use Rattle.plan_text.specs.declared.step.Step.TheVariants.{Join, Mirror, Copy, Switch, Drop, Retire}
use Rattle.plan_text.specs.declared.step.Planned.{Planned}
use Rattle.plan_text.specs.Steps.{steps_of}
use Rattle.plan_stage.specs.declared.stage.Stage.{Stage}

-- whether the node is among them
abbrev pub is_among : NodeId → List NodeId → Bool
is_among x [] = false
is_among x (y ∷ ys) = (x.0 == y.0) || is_among x ys

-- with the node at its place by number, once
abbrev pub with_node : NodeId → List NodeId → List NodeId
with_node x [] = x ∷ []
with_node x (y ∷ ys) = if nat_lt x.0 y.0 then x ∷ y ∷ ys else if x.0 == y.0 then y ∷ ys else y ∷ with_node x ys

-- without the node
abbrev pub without_node : NodeId → List NodeId → List NodeId
without_node x [] = []
without_node x (y ∷ ys) = if x.0 == y.0 then ys else y ∷ without_node x ys

-- whether the step may act on a slot in the stage
abbrev pub fits : Stage → Step → Bool
fits a (Mirror s x) = not (is_some a.mirror) && not (x.0 == a.owner.0) && not (is_among x a.leftovers)
fits a (Copy s from) = is_some a.mirror && not a.copied
fits a (Switch s) = is_some a.mirror && a.copied
fits a (Drop s x) = is_among x a.leftovers
fits a (Join x) = false
fits a (Retire x) = false

-- the stage after a switch
abbrev pub switched : Stage → Stage
switched a = record { owner = unwrap_or a.mirror a.owner; mirror = None; copied = false; leftovers = with_node a.owner a.leftovers }

-- the stage after the step
abbrev pub next : Stage → Step → Stage
next a (Mirror s x) = record { owner = a.owner; mirror = Some x; copied = false; leftovers = a.leftovers }
next a (Copy s from) = record { owner = a.owner; mirror = a.mirror; copied = true; leftovers = a.leftovers }
next a (Switch s) = switched a
next a (Drop s x) = record { owner = a.owner; mirror = a.mirror; copied = a.copied; leftovers = without_node x a.leftovers }
next a (Join x) = a
next a (Retire x) = a

-- at first there is only the ring's owner
abbrev pub opening : RingValue → Slot → Stage
opening ring slot = record { owner = unwrap_or (owner_of ring slot) (record { 0 = 0 }); mirror = None; copied = false; leftovers = [] }

-- the stage after the step of that number
abbrev pub after : List Planned → Stage → ℕ → Stage
after plan a s = elim (slice_get plan s) [ Some x ↦ next a x.step | None ↦ a ]

-- whether the step of that number may act on a slot in the stage
abbrev pub fits_at : List Planned → Stage → ℕ → Bool
fits_at plan a s = elim (slice_get plan s) [ Some x ↦ fits a x.step | None ↦ false ]

-- the stage of the slot after its first k steps
abbrev pub stage : RingValue → List Planned → Slot → ℕ → Stage
stage ring plan slot k = fold (after plan) (opening ring slot) (take k (steps_of plan slot))
