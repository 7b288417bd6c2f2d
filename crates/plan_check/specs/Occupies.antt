-- Since when a node serves a slot, and what is true of every stage of a sound plan.
use Rattle.std.specs.Prelude.{◌≡◌, ◌⊎◌, ℕ, suc, ◌<◌, ◌≤◌, true, false, List, length, get_or, take, drop, Option, Some, None}
use Rattle.ring_names.specs.Lists.{has}
use Rattle.ring_names.specs.declared.ids.NodeId.{NodeId}
use Rattle.ring_names.specs.declared.ids.Slot.{Slot}
use Rattle.ring_table.specs.Value.{RingValue, owner_of}
use Rattle.plan_text.specs.declared.step.Step.TheVariants.{Mirror}
use Rattle.plan_text.specs.declared.step.Planned.{Planned}
use Rattle.plan_text.specs.Steps.{steps_of}
use Rattle.plan_stage.specs.declared.stage.Stage.{Stage}
use Rattle.plan_stage.specs.Stage.{opening, stage, is_among}
use Rattle.plan_stage.specs.Occupancy.{is_node, leaving, first_end, mirror_end}
use Rattle.plan_stage.specs.Each.{step_at}

-- the node owned the slot at the start, and has not left it in its first k steps
abbrev pub FromStart : RingValue → List Planned → Slot → NodeId → ℕ → Type 0
FromStart ring plan slot x k = (owner_of ring slot ≡ Some x) × (leaving plan x (opening ring slot) (take k (steps_of plan slot)) ≡ None)

-- the b-th of them mirrored it, and it has not left since
abbrev pub FromMirror : RingValue → List Planned → Slot → NodeId → ℕ → ℕ → Type 0
FromMirror ring plan slot x k b = (b < k) × (step_at plan (get_or (steps_of plan slot) b 0) ≡ Some (Mirror slot x))
    × (leaving plan x (stage ring plan slot (suc b)) (drop (suc b) (take k (steps_of plan slot))) ≡ None)

-- the node is the slot's owner or mirror after its first k steps
abbrev pub Serves : RingValue → List Planned → Slot → NodeId → ℕ → Type 0
Serves ring plan slot x k = (x ≡ (stage ring plan slot k).owner) ⊎ ((stage ring plan slot k).mirror ≡ Some x)

-- it serves since one of the two, and if there is an end of that, the end is a later step
pub record Occupies (ring : RingValue) (plan : List Planned) (slot : Slot) (x : NodeId) (k : ℕ) : Type 0 where
  pub since : FromStart ring plan slot x k ⊎ ((b : ℕ) × FromMirror ring plan slot x k b)
  pub first_later : FromStart ring plan slot x k → (e : ℕ) → first_end ring plan slot ≡ Some e
      → has e (drop k (steps_of plan slot)) ≡ true
  pub mirror_later : (b : ℕ) → FromMirror ring plan slot x k b → (e : ℕ) → mirror_end ring plan slot b x ≡ Some e
      → has e (drop k (steps_of plan slot)) ≡ true

-- a node that serves a slot of the ring after its first k steps occupies it
abbrev pub ServersOccupy : RingValue → List Planned → Type 0
ServersOccupy ring plan = (slot : Slot) (x : NodeId) (k : ℕ) → slot.partition < ring.q → slot.index < ring.n
    → k ≤ length (steps_of plan slot) → Serves ring plan slot x k → Occupies ring plan slot x k

-- a node that occupies a slot of the ring serves it
abbrev pub OccupantsServe : RingValue → List Planned → Type 0
OccupantsServe ring plan = (slot : Slot) (x : NodeId) (k : ℕ) → slot.partition < ring.q → slot.index < ring.n
    → k ≤ length (steps_of plan slot) → FromStart ring plan slot x k ⊎ ((b : ℕ) × FromMirror ring plan slot x k b)
    → Serves ring plan slot x k

-- the mirror is neither the owner nor a leftover
abbrev pub IsGoodMirror : Stage → Option NodeId → Type 0
IsGoodMirror a None = Unit {0}
IsGoodMirror a (Some m) = (is_node m a.owner ≡ false) × (is_among m a.leftovers ≡ false)

-- nor is the owner a leftover
abbrev pub IsGoodStage : Stage → Type 0
IsGoodStage a = (is_among a.owner a.leftovers ≡ false) × IsGoodMirror a a.mirror

-- each stage of each of the ring's slots is so
abbrev pub AreGoodStages : RingValue → List Planned → Type 0
AreGoodStages ring plan = (slot : Slot) (k : ℕ) → slot.partition < ring.q → slot.index < ring.n → k ≤ length (steps_of plan slot)
    → IsGoodStage (stage ring plan slot k)
