-- How the checker looks at a clause: who serves each slot, as a pass over a plan keeps it.
use Rattle.std.specs.Prelude.{◌≡◌, ℕ, ◌+◌, ◌*◌, nat_lt, length, if◌then◌else◌, Bool, true, false, ◌&&◌, ◌||◌, List, [], ◌∷◌, Option, Some, None, unwrap_or, slice_index_or}
use Rattle.ring_names.specs.declared.ids.NodeId.{NodeId}
use Rattle.ring_names.specs.declared.ids.Slot.{Slot}
use Rattle.ring_table.specs.declared.allowance.NodeSide.{NodeSide}
use Rattle.ring_table.specs.declared.allowance.Side.{Side}
use Rattle.ring_table.specs.declared.allowance.Side.TheVariants.{Both, Take, Give}
use Rattle.ring_table.specs.Value.{RingValue, is_side, owner_of}
use Rattle.plan_text.specs.declared.step.Step.{Step}
use Rattle.plan_text.specs.Steps.{copy_of}
use Rattle.plan_stage.specs.declared.stage.Stage.{Stage}
use Rattle.plan_stage.specs.Occupancy.{is_node}
use Rattle.plan_stage.specs.Stage.{next}
use Rattle.plan_stage.specs.Parties.{source_slots}
use Rattle.plan_cover.specs.Clauses.{has_side}
use Rattle.plan_cover.specs.declared.present.Serving.{Serving}
use Rattle.plan_cover.specs.declared.present.Present.{Present}

-- the owner and the mirror of a stage
abbrev pub serving_of : Stage → Serving
serving_of a = record { owner = a.owner; mirror = a.mirror }

-- the place in which a slot is kept
abbrev pub place_of : Slot → ℕ
place_of s = 7 * s.partition + s.index

-- each slot of the ring has a place
abbrev pub HasRoom : RingValue → Present → Type 0
HasRoom ring a = length a.slots.items ≡ 7 * ring.q

-- what is kept for the slot
abbrev pub kept_at : Present → Slot → Option Serving
kept_at a s = if nat_lt s.index 7 then slice_index_or a.slots.items (place_of s) None else None

-- and otherwise the ring's owner
abbrev pub serving_at : RingValue → Present → Slot → Serving
serving_at ring a s = elim (kept_at a s) [
  | Some v ↦ v
  | None ↦ record { owner = unwrap_or (owner_of ring s) (record { 0 = 0 }); mirror = None }
]

-- after a step of the slot
abbrev pub after_step : Serving → Step → Serving
after_step a s = serving_of (next (record { owner = a.owner; mirror = a.mirror; copied = false; leftovers = [] }) s)

-- whether the node is the one that mirrors, if there is one
abbrev pub is_the_mirror : Option NodeId → NodeId → Bool
is_the_mirror o x = elim o [ Some y ↦ is_node x y | None ↦ false ]

-- whether the node owns one of the slots
abbrev pub owns_some : (Slot → Serving) → List Slot → NodeId → Bool
owns_some serve [] x = false
owns_some serve (s ∷ ss) x = is_node x (serve s).owner || owns_some serve ss x

-- whether a side counts the transfers of another one, which is Take or Give
abbrev pub counts : Side → Side → Bool
counts Both part = true
counts Take part = is_side Take part
counts Give part = is_side Give part

-- whether it is the side, if there is one
abbrev pub is_some_side : Option Side → Side → Bool
is_some_side None s = false
is_some_side (Some side) s = is_side s side

-- whether the node has the side, and the side counts those
abbrev pub counts_at : RingValue → Side → NodeSide → Bool
counts_at ring part y = has_side ring y.node y.side && counts y.side part

-- whether the side of the node counts the step, where the slots are served so
abbrev pub is_party : RingValue → (Slot → Serving) → Step → NodeSide → Bool
is_party ring serve s y = elim (copy_of s) [
  | Some c ↦ (counts_at ring Take y && is_the_mirror (serve c.0).mirror y.node)
      || (counts_at ring Give y && owns_some serve (source_slots c.0 c.1) y.node)
  | None ↦ false
]
