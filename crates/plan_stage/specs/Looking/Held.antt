-- How the checker looks at a clause: the holdings that are kept for the slots of a partition.
use Rattle.std.specs.Prelude.{◌≡◌, ℕ, ◌<◌, List, [], ◌++◌, Box, Option, Some, None, filter, map, reverse, slice_get}
use Rattle.std.specs.declared.alloc.Global.{Global}
use Rattle.ring_names.specs.ByKey.{list_at}
use Rattle.ring_names.specs.contracts.ids.NodeIdPartialEq.TheImpl as node_eq
use Rattle.ring_names.specs.declared.ids.NodeId.{NodeId}
use Rattle.ring_names.specs.declared.ids.Slot.{Slot}
use Rattle.ring_names.specs.declared.lists.Lists.{Lists}
use Rattle.ring_table.specs.Value.{RingValue}
use Rattle.plan_text.specs.declared.step.Planned.{Planned}
use Rattle.plan_stage.specs.declared.held.Found.{Found}
use Rattle.plan_stage.specs.declared.held.Held.{Held}
use Rattle.plan_stage.specs.declared.holding.Holding.{Holding}
use Rattle.plan_stage.specs.declared.holding.Holdings.{Holdings}
use Rattle.plan_stage.specs.Occupancy.{is_node}
use Rattle.plan_stage.specs.Each.{slot_in}
use Rattle.plan_stage.specs.Holdings.{holdings}

-- those of the node among these
abbrev pub held_among : List Found → NodeId → List Holding
held_among found x = map (λ f. f.holding) (filter (λ f. is_node x f.node) found)

-- those of the node that are kept beside the first
abbrev pub held_beside : Option (Box (Lists NodeId Holding) Global) → NodeId → List Holding
held_beside others x = elim others [ None ↦ [] | Some a ↦ list_at ((node_eq.ghosts).eq) a.value x ]

-- what is kept of the node in one slot
abbrev pub held_of : Held → NodeId → List Holding
held_of a x = held_among a.first x ++ held_beside a.others x

-- what is kept of the node in the slot of that index
abbrev pub held_at : Holdings → ℕ → NodeId → List Holding
held_at a i x = elim (slice_get a.slots.items i) [ None ↦ [] | Some slot ↦ held_of slot x ]

-- it is all holdings of each node in the slot, the last first
abbrev pub IsHeld : RingValue → List Planned → Slot → (NodeId → List Holding) → Type 0
IsHeld ring plan slot held = (x : NodeId) → held x ≡ reverse (holdings ring plan slot x)

-- so it is for each slot of the partition
abbrev pub AreHeld : RingValue → List Planned → ℕ → Holdings → Type 0
AreHeld ring plan p a = (i : ℕ) → i < ring.n → IsHeld ring plan (slot_in p i) (held_at a i)
