-- What each event needs, over what a running store keeps: the same tests, in the same order.
use Rattle.std.specs.Prelude.{ℕ, ◌-◌, Bool, false, not, ◌&&◌, ◌||◌, ◌==◌, nat_lt, List, [], ◌∷◌, ◌++◌, length, map, Some, None, slice_get}
use Rattle.std.specs.List.{list_all}
use Rattle.ring_names.specs.declared.ids.NodeId.{NodeId}
use Rattle.ring_names.specs.declared.ids.Slot.{Slot}
use Rattle.ring_names.specs.declared.refusal.Refusal.TheVariants.{NotMember, AlreadyDone, KeeperTaken, KeeperInPartition}
use Rattle.ring_names.specs.declared.refusal.Refusal.TheVariants.{UnknownNumber, NotOpen, ChunksLeft, LossesSpent}
use Rattle.ring_table.specs.Value.{RingValue}
use Rattle.plan_text.specs.declared.step.Planned.{Planned}
use Rattle.plan_text.specs.Valid.{is_ring_slot}
use Rattle.plan_stage.specs.Parties.{parties}
use Rattle.plan_stage.specs.Clauses.{Guard}
use Rattle.plan_runs.specs.World.{some_below, passing_below, slot_at}
use Rattle.plan_runs.specs.Guards.{up_guard, slot_up, nodes_up, has_copy}
use Rattle.store_parts.specs.declared.nodes.NodeNow.{NodeNow}
use Rattle.store_parts.specs.declared.slots.SlotNow.{SlotNow}
use Rattle.store_parts.specs.declared.steps.StepNow.{StepNow}
use Rattle.store_parts.specs.Nodes.{is_up_at, is_member_at}
use Rattle.store_parts.specs.Slots.{slot_now}
use Rattle.store_parts.specs.Steps.{is_done_at, is_open_at, is_marked_at}

-- ---- nodes

-- a member that is up
abbrev pub down_guards_kept : List NodeNow → NodeId → List Guard
down_guards_kept nodes x = (is_member_at nodes x.0, NotMember x.0) ∷ (is_up_at nodes x.0, AlreadyDone) ∷ []

-- a member that is down
abbrev pub up_guards_kept : List NodeNow → NodeId → List Guard
up_guards_kept nodes x = (is_member_at nodes x.0, NotMember x.0) ∷ (not (is_up_at nodes x.0), AlreadyDone) ∷ []

-- a member, and fewer stores were lost than may be
abbrev pub lose_guards_kept : RingValue → List NodeNow → ℕ → NodeId → List Guard
lose_guards_kept ring nodes losses x = (is_member_at nodes x.0, NotMember x.0) ∷ (nat_lt losses ring.loss, LossesSpent) ∷ []

-- ---- slots

-- the nodes that serve the slot are up
abbrev pub served_up_kept : List NodeNow → List (List SlotNow) → Slot → List Guard
served_up_kept nodes rows slot = elim (slot_now rows slot) [ Some a ↦ slot_up (is_up_at nodes) a.owner a.mirror | None ↦ [] ]

-- whether the node owns or mirrors the slot
abbrev pub is_served_kept : List (List SlotNow) → Slot → ℕ → Bool
is_served_kept rows slot x = elim (slot_now rows slot) [
  | Some a ↦ (x == a.owner.0) || elim a.mirror [ Some y ↦ x == y.0 | None ↦ false ]
  | None ↦ false
]

-- whether it owns or mirrors a slot of the partition
abbrev pub serves_in_kept : RingValue → List (List SlotNow) → ℕ → ℕ → Bool
serves_in_kept ring rows p x = some_below ring.n (λ i. is_served_kept rows (slot_at p i) x)

-- the put and the slot index exist, and the slot's nodes are up
abbrev pub write_guards_kept : List NodeNow → List (List SlotNow) → Bool → Slot → List Guard
write_guards_kept nodes rows exists slot = (exists, UnknownNumber) ∷ served_up_kept nodes rows slot

-- they exist, and the keeper is a member that is up, serves no slot of the partition and keeps no hint for another one
abbrev pub hint_guards_kept : List NodeNow → Bool → Bool → Bool → NodeId → List Guard
hint_guards_kept nodes exists serves keeps_other x = (exists, UnknownNumber) ∷ (is_member_at nodes x.0, NotMember x.0)
    ∷ up_guard (is_up_at nodes) x ∷ (not serves, KeeperInPartition) ∷ (not keeps_other, KeeperTaken) ∷ []

-- the owner of the slot is up
abbrev pub owner_up_kept : List NodeNow → List (List SlotNow) → Slot → List Guard
owner_up_kept nodes rows slot = elim (slot_now rows slot) [ Some a ↦ up_guard (is_up_at nodes) a.owner ∷ [] | None ↦ [] ]

-- the get and the slot index exist, and the get has not ended and not read the slot. The slot's owner and the
-- keepers of the key's hints for the slot are up
abbrev pub read_guards_kept : RingValue → List NodeNow → List (List SlotNow) → Bool → Bool → Bool → (ℕ → Bool) → Slot → List Guard
read_guards_kept ring nodes rows exists ended was_read keeps slot = (exists, UnknownNumber) ∷ (not ended, AlreadyDone) ∷ (not was_read, AlreadyDone)
    ∷ (owner_up_kept nodes rows slot ++ nodes_up (is_up_at nodes) (length ring.nodes) keeps)

-- a keeper of hints for the slot, and the slot's nodes, are up
abbrev pub handoff_guards_kept : RingValue → List NodeNow → List (List SlotNow) → Bool → NodeId → Slot → List Guard
handoff_guards_kept ring nodes rows keeps x s = (is_ring_slot ring s, UnknownNumber) ∷ (keeps, AlreadyDone)
    ∷ up_guard (is_up_at nodes) x ∷ served_up_kept nodes rows s

-- ---- steps

-- the step's direct dependencies are finished
abbrev pub is_ready_kept : List Planned → List StepNow → ℕ → Bool
is_ready_kept plan steps n = elim (slice_get plan n) [ Some x ↦ list_all (is_done_at steps) x.after | None ↦ false ]

-- ---- copies

-- the nodes of the copy are up
abbrev pub parties_up_kept : RingValue → List Planned → List NodeNow → ℕ → List Guard
parties_up_kept ring plan nodes n = map (up_guard (is_up_at nodes)) (parties ring plan n)

-- how many of the 16 chunks are not marked
abbrev pub chunks_left_kept : List StepNow → ℕ → ℕ
chunks_left_kept steps n = 16 - length (passing_below 16 (is_marked_at steps n))

-- an open copy whose chunks are all marked
abbrev pub close_copy_guards_kept : List Planned → List StepNow → ℕ → List Guard
close_copy_guards_kept plan steps n = (has_copy plan n, UnknownNumber) ∷ (is_open_at steps n, NotOpen)
    ∷ (chunks_left_kept steps n == 0, ChunksLeft (chunks_left_kept steps n)) ∷ []

-- an open copy
abbrev pub abort_copy_guards_kept : List Planned → List StepNow → ℕ → List Guard
abort_copy_guards_kept plan steps n = (has_copy plan n, UnknownNumber) ∷ (is_open_at steps n, NotOpen) ∷ []
