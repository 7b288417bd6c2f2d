-- The nodes of a copy, as the slots are kept, and the least of them that is down.
use Rattle.std.specs.Prelude.{ℕ, Bool, nat_lt, List, [], ◌∷◌, map, Option, Some, None, option_map, option_and_then, if◌then◌else◌}
use Rattle.ring_names.specs.declared.ids.NodeId.{NodeId}
use Rattle.ring_names.specs.declared.ids.Slot.{Slot}
use Rattle.plan_text.specs.declared.step.Source.{Source}
use Rattle.plan_stage.specs.Parties.{source_slots}
use Rattle.store_parts.specs.declared.slots.SlotNow.{SlotNow}
use Rattle.store_parts.specs.Slots.{slot_now}

-- the node that owns the slot, if the ring has it
abbrev pub owner_kept : List (List SlotNow) → Slot → Option NodeId
owner_kept rows t = option_map (λ a. a.owner) (slot_now rows t)

-- the node that mirrors it, if there is one
abbrev pub mirror_kept : List (List SlotNow) → Slot → Option NodeId
mirror_kept rows t = option_and_then (λ a. a.mirror) (slot_now rows t)

-- the slot's mirror, and the owners of the slots that a copy of it reads
abbrev pub party_kept : List (List SlotNow) → Slot → Source → List (Option NodeId)
party_kept rows slot source = mirror_kept rows slot ∷ map (owner_kept rows) (source_slots slot source)

-- the lesser of the node and another one, if there is one
abbrev pub lesser : NodeId → Option NodeId → NodeId
lesser x None = x
lesser x (Some y) = if nat_lt y.0 x.0 then y else x

-- the lesser of a node, if it is there and down, and one that was found so
abbrev pub with_down : (ℕ → Bool) → Option NodeId → Option NodeId → Option NodeId
with_down up None least = least
with_down up (Some x) least = if up x.0 then least else Some (lesser x least)

-- the least of those that are there and down
abbrev pub least_down : (ℕ → Bool) → List (Option NodeId) → Option NodeId
least_down up [] = None
least_down up (o ∷ os) = with_down up o (least_down up os)
