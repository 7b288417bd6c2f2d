-- The nodes that take part in a copy.
use Rattle.std.specs.Prelude.{ℕ, ◌+◌, nat_lt, List, [], ◌∷◌, map, Option, Some, None, slice_get, if◌then◌else◌}
use Rattle.ring_names.specs.declared.ids.NodeId.{NodeId}
use Rattle.ring_names.specs.declared.ids.Slot.{Slot}
use Rattle.ring_table.specs.declared.allowance.Side.{Side}
use Rattle.ring_table.specs.declared.allowance.Side.TheVariants.{Both, Take, Give}
use Rattle.ring_table.specs.Value.{RingValue}
use Rattle.plan_text.specs.declared.step.Source.{Source}
use Rattle.plan_text.specs.declared.step.Source.TheVariants.{Owner, Slots}
use Rattle.plan_text.specs.declared.step.Step.{Step}
use Rattle.plan_text.specs.declared.step.Planned.{Planned}
use Rattle.plan_text.specs.Steps.{steps_of, copy_of}
use Rattle.plan_stage.specs.declared.stage.Stage.{Stage}
use Rattle.plan_stage.specs.Stage.{stage, with_node}

-- how many of these numbers are below n
abbrev pub count_below : ℕ → List ℕ → ℕ
count_below n [] = 0
count_below n (s ∷ ss) = if nat_lt s n then count_below n ss + 1 else count_below n ss

-- the stage of the slot after its steps of smaller number than step n
abbrev pub stage_before : RingValue → List Planned → Slot → ℕ → Stage
stage_before ring plan slot n = stage ring plan slot (count_below n (steps_of plan slot))

-- the slots from which a copy of the slot reads
abbrev pub source_slots : Slot → Source → List Slot
source_slots slot Owner = slot ∷ []
source_slots slot (Slots from) = map (λ i. record { partition = slot.partition; index = i }) from

-- the owners of these slots before step n, each once, by number
abbrev pub owners_before : RingValue → List Planned → ℕ → List Slot → List NodeId
owners_before ring plan n [] = []
owners_before ring plan n (slot ∷ slots) = with_node (stage_before ring plan slot n).owner (owners_before ring plan n slots)

-- the owners of the source slots of step n; none if it is not a copy
abbrev pub sources_of : RingValue → List Planned → ℕ → Step → List NodeId
sources_of ring plan n s = elim (copy_of s) [ Some c ↦ owners_before ring plan n (source_slots c.0 c.1) | None ↦ [] ]

-- the mirror to which step n copies
abbrev pub target_of : RingValue → List Planned → ℕ → Step → Option NodeId
target_of ring plan n s = elim (copy_of s) [ Some c ↦ (stage_before ring plan c.0 n).mirror | None ↦ None ]

-- these nodes, and the mirror with them
abbrev pub with_target : Option NodeId → List NodeId → List NodeId
with_target None xs = xs
with_target (Some x) xs = with_node x xs

-- the nodes whose side it is, of the mirror and the others: both, the receiver, or the nodes that are read
abbrev pub on_side : Side → Option NodeId → List NodeId → List NodeId
on_side Both target sources = with_target target sources
on_side Take target sources = with_target target []
on_side Give target sources = sources

-- the nodes that take part in step n on that side, by number
abbrev pub parties_on : RingValue → List Planned → Side → ℕ → List NodeId
parties_on ring plan side n = elim (slice_get plan n) [
  | Some step ↦ on_side side (target_of ring plan n step.step) (sources_of ring plan n step.step)
  | None ↦ []
]

-- the nodes of step n, by number
abbrev pub parties : RingValue → List Planned → ℕ → List NodeId
parties ring plan n = parties_on ring plan Both n

-- those of them that own a slot which it reads
abbrev pub sources : RingValue → List Planned → ℕ → List NodeId
sources ring plan n = parties_on ring plan Give n
