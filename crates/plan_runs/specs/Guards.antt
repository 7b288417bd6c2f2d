-- What each event needs: tests, each with its refusal, in the order in which they are tested.
use Rattle.std.specs.Prelude.{ℕ, Bool, false, not, ◌&&◌, ◌||◌, ◌==◌, nat_lt, nat_le, List, [], ◌∷◌, ◌++◌, length, map, Option, Some, None, slice_get, is_some}
use Rattle.std.specs.List.{list_all, list_any}
use Rattle.ring_names.specs.declared.ids.NodeId.{NodeId}
use Rattle.ring_names.specs.declared.ids.Slot.{Slot}
use Rattle.ring_names.specs.declared.refusal.Refusal.TheVariants.{NotMember, NotReady, AlreadyDone, NodeDown, KeeperTaken, KeeperInPartition}
use Rattle.ring_names.specs.declared.refusal.Refusal.TheVariants.{StaleTickets, TooFewSlots, UnknownNumber, HintsLeft, NotOpen, ChunksLeft, LossesSpent}
use Rattle.ring_table.specs.Value.{RingValue}
use Rattle.plan_text.specs.declared.step.Source.{Source}
use Rattle.plan_text.specs.declared.step.Source.TheVariants as source
use Rattle.plan_text.specs.declared.step.Step.{Step}
use Rattle.plan_text.specs.declared.step.Step.TheVariants as step
use Rattle.plan_text.specs.declared.step.Planned.{Planned}
use Rattle.plan_text.specs.Steps.{copy_of}
use Rattle.plan_text.specs.Valid.{is_ring_slot}
use Rattle.plan_stage.specs.Each.{step_at}
use Rattle.plan_stage.specs.Parties.{parties, source_slots}
use Rattle.plan_stage.specs.Clauses.{Guard}
use Rattle.plan_runs.specs.declared.event.Event.{Event}
use Rattle.plan_runs.specs.declared.event.Event.TheVariants.{Do, OpenCopy, ChunkCopy, CloseCopy, AbortCopy, StartPut, Write, Hint}
use Rattle.plan_runs.specs.declared.event.Event.TheVariants.{Ack, StartGet, Read, EndGet, Down, Up, Handoff, Lose}
use Rattle.plan_runs.specs.World.{World, some_below, passing_below, is_acked, ticket_of, key_of_get, found_at, reply_of, is_get_of, is_of_key}
use Rattle.plan_runs.specs.World.{copy_at, stage_now, generation, is_member_now, slot_at, keeps, keeps_other, keeps_any, is_served}
use Rattle.plan_runs.specs.Versions.{put_slot, get_slot, is_in_chunk}

-- ---- nodes that must be up

-- the node is up
abbrev pub up_guard : (ℕ → Bool) → NodeId → Guard
up_guard up x = (up x.0, NodeDown x.0)

-- so is the mirror, if there is one
abbrev pub mirror_up : (ℕ → Bool) → Option NodeId → List Guard
mirror_up up None = []
mirror_up up (Some x) = up_guard up x ∷ []

-- the owner and then the mirror of a slot
abbrev pub slot_up : (ℕ → Bool) → NodeId → Option NodeId → List Guard
slot_up up owner mirror = up_guard up owner ∷ mirror_up up mirror

-- those of n nodes that pass the test, by number
abbrev pub nodes_up : (ℕ → Bool) → ℕ → (ℕ → Bool) → List Guard
nodes_up up n test = map (λ x. (up x, NodeDown x)) (passing_below n test)

-- the nodes that serve the slot now
abbrev pub served_up : RingValue → List Planned → World → Slot → List Guard
served_up ring plan w slot = slot_up w.up (stage_now ring plan w slot).owner (stage_now ring plan w slot).mirror

-- ---- steps

-- step n is a copy
abbrev pub has_copy : List Planned → ℕ → Bool
has_copy plan n = is_some (copy_at plan n)

-- step n is another step
abbrev pub has_other : List Planned → ℕ → Bool
has_other plan n = elim (step_at plan n) [ Some s ↦ not (is_some (copy_of s)) | None ↦ false ]

-- its direct dependencies are finished
abbrev pub is_ready : List Planned → World → ℕ → Bool
is_ready plan w n = elim (slice_get plan n) [ Some x ↦ list_all w.done x.after | None ↦ false ]

-- a node that is mirrored is up and keeps no hint for another slot of the partition. A node that drops is up,
-- and a node that retires keeps no hint
abbrev pub step_guards : RingValue → World → Step → List Guard
step_guards ring w (step.Join x) = []
step_guards ring w (step.Mirror s x) = up_guard w.up x ∷ (not (keeps_other ring w x.0 s), HintsLeft) ∷ []
step_guards ring w (step.Copy s from) = []
step_guards ring w (step.Switch s) = []
step_guards ring w (step.Drop s x) = up_guard w.up x ∷ []
step_guards ring w (step.Retire x) = (not (keeps_any ring w x.0), HintsLeft) ∷ []

-- a step that is not a copy, new and ready, and what it needs by its kind
abbrev pub do_guards : RingValue → List Planned → World → ℕ → List Guard
do_guards ring plan w n = (has_other plan n, UnknownNumber) ∷ (not (w.done n), AlreadyDone) ∷ (is_ready plan w n, NotReady)
    ∷ elim (step_at plan n) [ Some s ↦ step_guards ring w s | None ↦ [] ]

-- ---- copies

-- the nodes of the copy
abbrev pub parties_up : RingValue → List Planned → World → ℕ → List Guard
parties_up ring plan w n = map (up_guard w.up) (parties ring plan n)

-- the node keeps a hint of that chunk for a slot that the copy of the slot lists
abbrev pub keeps_source : RingValue → World → Slot → Source → ℕ → ℕ → Bool
keeps_source ring w slot source.Owner c x = false
keeps_source ring w slot (source.Slots from) c x =
    list_any (λ s. some_below (length w.puts) (λ v. is_in_chunk ring w slot c v && w.hinted x s v)) (source_slots slot (source.Slots from))

-- the nodes that keep hints of the chunk for listed slots
abbrev pub keepers_up : RingValue → List Planned → World → ℕ → ℕ → List Guard
keepers_up ring plan w n c = elim (copy_at plan n) [ Some k ↦ nodes_up w.up (length ring.nodes) (keeps_source ring w k.0 k.1 c) | None ↦ [] ]

-- how many of the 16 chunks are not marked
abbrev pub chunks_left : World → ℕ → ℕ
chunks_left w n = length (passing_below 16 (λ c. not (w.marked n c)))

-- a copy, neither finished nor open, and ready
abbrev pub open_copy_guards : RingValue → List Planned → World → ℕ → List Guard
open_copy_guards ring plan w n = (has_copy plan n, UnknownNumber) ∷ (not (w.done n || w.is_open n), AlreadyDone) ∷ (is_ready plan w n, NotReady)
    ∷ parties_up ring plan w n

-- a chunk that is not marked, of an open copy
abbrev pub chunk_copy_guards : RingValue → List Planned → World → ℕ → ℕ → List Guard
chunk_copy_guards ring plan w n c = (has_copy plan n && nat_lt c 16, UnknownNumber) ∷ (w.is_open n, NotOpen) ∷ (not (w.marked n c), AlreadyDone)
    ∷ (parties_up ring plan w n ++ keepers_up ring plan w n c)

-- an open copy whose chunks are all marked
abbrev pub close_copy_guards : List Planned → World → ℕ → List Guard
close_copy_guards plan w n = (has_copy plan n, UnknownNumber) ∷ (w.is_open n, NotOpen) ∷ (chunks_left w n == 0, ChunksLeft (chunks_left w n)) ∷ []

-- an open copy
abbrev pub abort_copy_guards : List Planned → World → ℕ → List Guard
abort_copy_guards plan w n = (has_copy plan n, UnknownNumber) ∷ (w.is_open n, NotOpen) ∷ []

-- ---- puts

-- the get has a reply
abbrev pub has_ended : World → ℕ → Bool
has_ended w g = is_some (reply_of w g)

-- a put and a slot index that exist
abbrev pub put_exists : RingValue → World → ℕ → ℕ → Bool
put_exists ring w v i = nat_lt v (length w.puts) && nat_lt i ring.n

-- the node owns or mirrors a slot of the partition
abbrev pub serves_in : RingValue → List Planned → World → ℕ → ℕ → Bool
serves_in ring plan w p x = some_below ring.n (λ i. is_served (stage_now ring plan w (slot_at p i)) x)

-- the put's ticket for the slot of that index is of the slot's present generation
abbrev pub is_current : RingValue → List Planned → World → ℕ → ℕ → Bool
is_current ring plan w v i = elim (ticket_of w v i) [ Some g ↦ g == generation plan w (put_slot ring w v i) | None ↦ false ]

-- how many of the put's tickets are current
abbrev pub current_tickets : RingValue → List Planned → World → ℕ → ℕ
current_tickets ring plan w v = length (passing_below ring.n (is_current ring plan w v))

-- the gets that are named are of the key, and have ended
abbrev pub start_put_guards : World → List ℕ → List ℕ → List Guard
start_put_guards w key seen = (list_all (is_get_of w key) seen, UnknownNumber) ∷ (list_all (has_ended w) seen, NotReady) ∷ []

-- the slot's nodes are up
abbrev pub write_guards : RingValue → List Planned → World → ℕ → ℕ → List Guard
write_guards ring plan w v i = (put_exists ring w v i, UnknownNumber) ∷ served_up ring plan w (put_slot ring w v i)

-- a member that is up, serves no slot of the partition and keeps no hint for another one
abbrev pub hint_guards : RingValue → List Planned → World → ℕ → ℕ → NodeId → List Guard
hint_guards ring plan w v i x = (put_exists ring w v i, UnknownNumber) ∷ (is_member_now ring plan w x.0, NotMember x.0) ∷ up_guard w.up x
    ∷ (not (serves_in ring plan w (put_slot ring w v i).partition x.0), KeeperInPartition)
    ∷ (not (keeps_other ring w x.0 (put_slot ring w v i)), KeeperTaken) ∷ []

-- a put that is not acknowledged, with W current tickets
abbrev pub ack_guards : RingValue → List Planned → World → ℕ → List Guard
ack_guards ring plan w v = (nat_lt v (length w.puts), UnknownNumber) ∷ (not (is_acked w v), AlreadyDone)
    ∷ (nat_le ring.w (current_tickets ring plan w v), StaleTickets (current_tickets ring plan w v)) ∷ []

-- ---- gets

-- a get and a slot index that exist
abbrev pub get_exists : RingValue → World → ℕ → ℕ → Bool
get_exists ring w g i = nat_lt g (length w.gets) && nat_lt i ring.n

-- how many slots the get has read
abbrev pub slots_read : RingValue → World → ℕ → ℕ
slots_read ring w g = length (passing_below ring.n (λ i. is_some (found_at w g i)))

-- the node keeps a hint for the slot of a put of the key
abbrev pub keeps_of_key : World → List ℕ → Slot → ℕ → Bool
keeps_of_key w key slot x = some_below (length w.puts) (λ v. is_of_key w key v && w.hinted x slot v)

-- the get has not ended and not read the slot. The slot's owner and the keepers of the key's hints for the slot
-- are up
abbrev pub read_guards : RingValue → List Planned → World → ℕ → ℕ → List Guard
read_guards ring plan w g i = (get_exists ring w g i, UnknownNumber) ∷ (not (has_ended w g), AlreadyDone) ∷ (not (is_some (found_at w g i)), AlreadyDone)
    ∷ up_guard w.up (stage_now ring plan w (get_slot ring w g i)).owner
    ∷ nodes_up w.up (length ring.nodes) (keeps_of_key w (key_of_get w g) (get_slot ring w g i))

-- the get has not ended and has read R slots
abbrev pub end_get_guards : RingValue → World → ℕ → List Guard
end_get_guards ring w g = (nat_lt g (length w.gets), UnknownNumber) ∷ (not (has_ended w g), AlreadyDone)
    ∷ (nat_le ring.r (slots_read ring w g), TooFewSlots (slots_read ring w g)) ∷ []

-- ---- nodes

-- a member that is up
abbrev pub down_guards : RingValue → List Planned → World → NodeId → List Guard
down_guards ring plan w x = (is_member_now ring plan w x.0, NotMember x.0) ∷ (w.up x.0, AlreadyDone) ∷ []

-- a member that is down
abbrev pub up_guards : RingValue → List Planned → World → NodeId → List Guard
up_guards ring plan w x = (is_member_now ring plan w x.0, NotMember x.0) ∷ (not (w.up x.0), AlreadyDone) ∷ []

-- a keeper of hints for the slot, and the slot's nodes, are up
abbrev pub handoff_guards : RingValue → List Planned → World → NodeId → Slot → List Guard
handoff_guards ring plan w x s = (is_ring_slot ring s, UnknownNumber) ∷ (keeps w x.0 s, AlreadyDone) ∷ up_guard w.up x ∷ served_up ring plan w s

-- a member, and fewer stores were lost than may be
abbrev pub lose_guards : RingValue → List Planned → World → NodeId → List Guard
lose_guards ring plan w x = (is_member_now ring plan w x.0, NotMember x.0) ∷ (nat_lt w.losses ring.loss, LossesSpent) ∷ []

-- what the event needs
unfoldable pub guards : RingValue → List Planned → World → Event → List Guard
guards ring plan w (Do n) = do_guards ring plan w n
guards ring plan w (OpenCopy n) = open_copy_guards ring plan w n
guards ring plan w (ChunkCopy n c) = chunk_copy_guards ring plan w n c
guards ring plan w (CloseCopy n) = close_copy_guards plan w n
guards ring plan w (AbortCopy n) = abort_copy_guards plan w n
guards ring plan w (StartPut writer key value seen) = start_put_guards w key seen
guards ring plan w (Write v i) = write_guards ring plan w v i
guards ring plan w (Hint v i x) = hint_guards ring plan w v i x
guards ring plan w (Ack v) = ack_guards ring plan w v
guards ring plan w (StartGet key) = []
guards ring plan w (Read g i) = read_guards ring plan w g i
guards ring plan w (EndGet g) = end_get_guards ring w g
guards ring plan w (Down x) = down_guards ring plan w x
guards ring plan w (Up x) = up_guards ring plan w x
guards ring plan w (Handoff x s) = handoff_guards ring plan w x s
guards ring plan w (Lose x) = lose_guards ring plan w x
