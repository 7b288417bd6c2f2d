-- What each event changes.
use Rattle.std.specs.Prelude.{ℕ, zero, suc, ◌+◌, Bool, true, false, not, ◌&&◌, ◌||◌, ◌==◌, nat_lt}
use Rattle.std.specs.Prelude.{List, [], ◌∷◌, ◌++◌, length, Option, Some, None, if◌then◌else◌}
use Rattle.std.specs.List.{list_any}
use Rattle.ring_names.specs.Lists.{has}
use Rattle.ring_names.specs.declared.ids.NodeId.{NodeId}
use Rattle.ring_names.specs.declared.ids.Slot.{Slot}
use Rattle.ring_table.specs.Value.{RingValue}
use Rattle.plan_text.specs.declared.step.Source.{Source}
use Rattle.plan_text.specs.declared.step.Source.TheVariants as source
use Rattle.plan_text.specs.declared.step.Step.{Step}
use Rattle.plan_text.specs.declared.step.Step.TheVariants as step
use Rattle.plan_text.specs.declared.step.Planned.{Planned}
use Rattle.plan_text.specs.Steps.{is_slot}
use Rattle.plan_stage.specs.Each.{step_at}
use Rattle.plan_stage.specs.Parties.{source_slots}
use Rattle.plan_runs.specs.declared.event.Event.{Event}
use Rattle.plan_runs.specs.declared.event.Event.TheVariants.{Do, OpenCopy, ChunkCopy, CloseCopy, AbortCopy, StartPut, Write, Hint}
use Rattle.plan_runs.specs.declared.event.Event.TheVariants.{Ack, StartGet, Read, EndGet, Down, Up, Handoff, Lose}
use Rattle.plan_runs.specs.World.{PutRecord, World, some_below, passing_below, key_of_get, found_at, is_of_key, copy_at, stage_now, generation, is_in_group}
use Rattle.plan_runs.specs.Succession.{latest}
use Rattle.plan_runs.specs.Versions.{put_slot, get_slot, is_in_chunk, slot_has}

-- ---- tests and lists that change

-- with the number
abbrev pub with_number : (ℕ → Bool) → ℕ → ℕ → Bool
with_number test n m = (m == n) || test m

-- without the number
abbrev pub without_number : (ℕ → Bool) → ℕ → ℕ → Bool
without_number test n m = not (m == n) && test m

-- with chunk c of copy n
abbrev pub with_mark : (ℕ → ℕ → Bool) → ℕ → ℕ → ℕ → ℕ → Bool
with_mark test n c m d = ((m == n) && (d == c)) || test m d

-- with these puts for the slot at the node
abbrev pub with_puts : (ℕ → Slot → ℕ → Bool) → NodeId → Slot → (ℕ → Bool) → ℕ → Slot → ℕ → Bool
with_puts test x s more y t v = ((y == x.0) && is_slot s t && more v) || test y t v

-- with these puts for the slot at the mirror, if there is one
abbrev pub with_mirror_puts : (ℕ → Slot → ℕ → Bool) → Option NodeId → Slot → (ℕ → Bool) → ℕ → Slot → ℕ → Bool
with_mirror_puts test None s more = test
with_mirror_puts test (Some x) s more = with_puts test x s more

-- without any put for the slot at the node
abbrev pub without_puts : (ℕ → Slot → ℕ → Bool) → NodeId → Slot → ℕ → Slot → ℕ → Bool
without_puts test x s y t v = not ((y == x.0) && is_slot s t) && test y t v

-- without any put at the node
abbrev pub without_node : (ℕ → Slot → ℕ → Bool) → NodeId → ℕ → Slot → ℕ → Bool
without_node test x y t v = not (y == x.0) && test y t v

-- the list with its n-th item changed
abbrev pub changed : {A : Type 0} → List A → ℕ → (A → A) → List A
changed [] n f = []
changed (x ∷ xs) zero f = f x ∷ xs
changed (x ∷ xs) (suc n) f = x ∷ changed xs n f

-- with a value at i
abbrev pub with_value : {A : Type 0} → (ℕ → Option A) → ℕ → A → ℕ → Option A
with_value f i x j = if j == i then Some x else f j

-- ---- steps and copies

-- a join makes its node up, a drop takes what its node has of the slot
abbrev pub step_effect : World → Step → World
step_effect w (step.Join x) = record w { up = with_number w.up x.0 }
step_effect w (step.Mirror s x) = w
step_effect w (step.Copy s from) = w
step_effect w (step.Switch s) = w
step_effect w (step.Drop s x) = record w { stored = without_puts w.stored x s }
step_effect w (step.Retire x) = w

-- the step is finished
abbrev pub do_effect : List Planned → World → ℕ → World
do_effect plan w n = elim (step_at plan n) [ Some s ↦ step_effect (record w { done = with_number w.done n }) s | None ↦ w ]

-- the copy is open
abbrev pub open_copy_effect : World → ℕ → World
open_copy_effect w n = record w { is_open = with_number w.is_open n }

-- what a copy of the slot reads has the put: the slot's owner, or of listed slots an owner or a hint
abbrev pub source_has : RingValue → List Planned → World → Slot → Source → ℕ → Bool
source_has ring plan w slot source.Owner v = w.stored (stage_now ring plan w slot).owner.0 slot v
source_has ring plan w slot (source.Slots from) v = list_any (λ s. slot_has ring plan w s v) (source_slots slot (source.Slots from))

-- the puts of the chunk that a copy of the slot reads
abbrev pub is_copied : RingValue → List Planned → World → Slot → Source → ℕ → ℕ → Bool
is_copied ring plan w slot from c v = nat_lt v (length w.puts) && is_in_chunk ring w slot c v && source_has ring plan w slot from v

-- they go to the slot's mirror
abbrev pub copied_puts : RingValue → List Planned → World → ℕ → ℕ → ℕ → Slot → ℕ → Bool
copied_puts ring plan w n c = elim (copy_at plan n) [
  | Some k ↦ with_mirror_puts w.stored (stage_now ring plan w k.0).mirror k.0 (is_copied ring plan w k.0 k.1 c)
  | None ↦ w.stored
]

-- the chunk is marked, and what the copy reads of it goes to the mirror
abbrev pub chunk_copy_effect : RingValue → List Planned → World → ℕ → ℕ → World
chunk_copy_effect ring plan w n c = record w { marked = with_mark w.marked n c; stored = copied_puts ring plan w n c }

-- the copy is finished
abbrev pub close_copy_effect : World → ℕ → World
close_copy_effect w n = record w { is_open = without_number w.is_open n; done = with_number w.done n }

-- the copy is no longer open; its marks stay
abbrev pub abort_copy_effect : World → ℕ → World
abort_copy_effect w n = record w { is_open = without_number w.is_open n }

-- ---- puts

-- a new put has no tickets
abbrev pub start_put_effect : World → ℕ → List ℕ → List ℕ → List ℕ → World
start_put_effect w writer key value seen =
    record w { puts = w.puts ++ record { writer = writer; key = key; value = value; seen = seen; ticket = λ i. None; acked = false } ∷ [] }

-- with these puts for the slot at its owner and its mirror
abbrev pub served_puts : RingValue → List Planned → World → Slot → (ℕ → Bool) → ℕ → Slot → ℕ → Bool
served_puts ring plan w s more =
    with_mirror_puts (with_puts w.stored (stage_now ring plan w s).owner s more) (stage_now ring plan w s).mirror s more

-- the put with a ticket for the slot of that index, of the slot's present generation
abbrev pub with_ticket : RingValue → List Planned → World → ℕ → ℕ → List PutRecord
with_ticket ring plan w v i = changed w.puts v (λ x. record x { ticket = with_value x.ticket i (generation plan w (put_slot ring w v i)) })

-- the slot's owner and mirror have the put
abbrev pub write_effect : RingValue → List Planned → World → ℕ → ℕ → World
write_effect ring plan w v i = record w { stored = served_puts ring plan w (put_slot ring w v i) (λ u. u == v); puts = with_ticket ring plan w v i }

-- the node has the put as a hint for the slot
abbrev pub hint_effect : RingValue → List Planned → World → ℕ → ℕ → NodeId → World
hint_effect ring plan w v i x = record w { hinted = with_puts w.hinted x (put_slot ring w v i) (λ u. u == v); puts = with_ticket ring plan w v i }

-- the put is acknowledged
abbrev pub ack_effect : World → ℕ → World
ack_effect w v = record w { puts = changed w.puts v (λ x. record x { acked = true }) }

-- ---- gets

-- a new get has read nothing
abbrev pub start_get_effect : World → List ℕ → World
start_get_effect w key = record w { gets = w.gets ++ record { key = key; found = λ i. None; reply = None } ∷ [] }

-- the puts that a read of the slot finds for the get: the latest that the slot has of its key
abbrev pub finds : RingValue → List Planned → World → ℕ → ℕ → List ℕ
finds ring plan w g i =
    latest w (passing_below (length w.puts) (λ v. is_of_key w (key_of_get w g) v && slot_has ring plan w (get_slot ring w g i) v))

-- the get found the put at that slot
abbrev pub has_found : World → ℕ → ℕ → ℕ → Bool
has_found w g v i = elim (found_at w g i) [ Some vs ↦ has v vs | None ↦ false ]

-- the reply of the get: the latest of all that it found
abbrev pub answers : RingValue → World → ℕ → List ℕ
answers ring w g = latest w (passing_below (length w.puts) (λ v. some_below ring.n (has_found w g v)))

-- the get has read the slot
abbrev pub read_effect : RingValue → List Planned → World → ℕ → ℕ → World
read_effect ring plan w g i = record w { gets = changed w.gets g (λ x. record x { found = with_value x.found i (finds ring plan w g i) }) }

-- the get has its reply
abbrev pub end_get_effect : RingValue → World → ℕ → World
end_get_effect ring w g = record w { gets = changed w.gets g (λ x. record x { reply = Some (answers ring w g) }) }

-- ---- nodes

-- the node is down; what it has stays
abbrev pub down_effect : World → NodeId → World
down_effect w x = record w { up = without_number w.up x.0 }

-- the node is up
abbrev pub up_effect : World → NodeId → World
up_effect w x = record w { up = with_number w.up x.0 }

-- the slot's owner and mirror have what the node kept for the slot, and it keeps nothing for it
abbrev pub handoff_effect : RingValue → List Planned → World → NodeId → Slot → World
handoff_effect ring plan w x s = record w { stored = served_puts ring plan w s (w.hinted x.0 s); hinted = without_puts w.hinted x s }

-- a slot whose group has the node has one loss more
abbrev pub with_loss : RingValue → List Planned → World → NodeId → Slot → ℕ
with_loss ring plan w x s = if is_in_group ring plan w s x.0 then w.lost s + 1 else w.lost s

-- the node stores and keeps nothing, and there is one loss more
abbrev pub lose_effect : RingValue → List Planned → World → NodeId → World
lose_effect ring plan w x =
    record w { stored = without_node w.stored x; hinted = without_node w.hinted x; losses = w.losses + 1; lost = with_loss ring plan w x }

-- the world after the event
unfoldable pub effect : RingValue → List Planned → World → Event → World
effect ring plan w (Do n) = do_effect plan w n
effect ring plan w (OpenCopy n) = open_copy_effect w n
effect ring plan w (ChunkCopy n c) = chunk_copy_effect ring plan w n c
effect ring plan w (CloseCopy n) = close_copy_effect w n
effect ring plan w (AbortCopy n) = abort_copy_effect w n
effect ring plan w (StartPut writer key value seen) = start_put_effect w writer.0 key value seen
effect ring plan w (Write v i) = write_effect ring plan w v i
effect ring plan w (Hint v i x) = hint_effect ring plan w v i x
effect ring plan w (Ack v) = ack_effect w v
effect ring plan w (StartGet key) = start_get_effect w key
effect ring plan w (Read g i) = read_effect ring plan w g i
effect ring plan w (EndGet g) = end_get_effect ring w g
effect ring plan w (Down x) = down_effect w x
effect ring plan w (Up x) = up_effect w x
effect ring plan w (Handoff x s) = handoff_effect ring plan w x s
effect ring plan w (Lose x) = lose_effect ring plan w x
