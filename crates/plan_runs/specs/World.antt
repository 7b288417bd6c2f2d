-- A store at one moment, and what follows from it for slots and nodes.
use Rattle.std.specs.Prelude.{ℕ, zero, suc, ◌+◌, Bool, false, not, ◌&&◌, ◌||◌, ◌==◌, List}
use Rattle.std.specs.Prelude.{[], ◌∷◌, length, Option, Some, None, slice_get, is_some, option_and_then, if◌then◌else◌}
use Rattle.std.specs.Str.{bytes_eq}
use Rattle.ring_names.specs.declared.ids.Slot.{Slot}
use Rattle.ring_names.specs.declared.ids.NodeId.{NodeId}
use Rattle.ring_space.specs.Place.{place_of}
use Rattle.ring_table.specs.Value.{RingValue, is_member}
use Rattle.plan_text.specs.declared.step.Source.{Source}
use Rattle.plan_text.specs.declared.step.Planned.{Planned}
use Rattle.plan_text.specs.Steps.{steps_of, is_join_of, is_retire_of, copy_of, mirror_of}
use Rattle.plan_stage.specs.declared.stage.Stage.{Stage}
use Rattle.plan_stage.specs.Stage.{stage}
use Rattle.plan_stage.specs.Each.{some_step, step_at, sibling}

-- a put. A slot's ticket is the generation at which the put was last written or hinted there, if it was
pub record PutRecord : Type 0 where
  pub writer : ℕ
  pub key : List ℕ
  pub value : List ℕ
  pub seen : List ℕ
  pub ticket : ℕ → Option ℕ
  pub acked : Bool

-- a get: what it found at each slot read, and the reply once it has ended
pub record GetRecord : Type 0 where
  pub key : List ℕ
  pub found : ℕ → Option (List ℕ)
  pub reply : Option (List ℕ)

-- which steps are finished, which copies are open, which of their chunks are marked, and which nodes are up.
-- The puts and gets in order of their start, the puts that nodes store for slots, and those that they keep as
-- hints. How often nodes lost their data, and for each slot how often the node was in its group. Nothing more
-- is kept
pub record World : Type 0 where
  pub done : ℕ → Bool
  pub is_open : ℕ → Bool
  pub marked : ℕ → ℕ → Bool
  pub up : ℕ → Bool
  pub puts : List PutRecord
  pub gets : List GetRecord
  pub stored : ℕ → Slot → ℕ → Bool
  pub hinted : ℕ → Slot → ℕ → Bool
  pub losses : ℕ
  pub lost : Slot → ℕ

-- at the start members are up, and there is nothing else
abbrev pub opening_world : RingValue → World
opening_world ring = record {
  done = λ n. false;
  is_open = λ n. false;
  marked = λ n c. false;
  up = λ x. is_member ring.nodes (record { 0 = x });
  puts = [];
  gets = [];
  stored = λ x s v. false;
  hinted = λ x s v. false;
  losses = 0;
  lost = λ s. 0;
}

-- ---- numbers below n

-- whether one of them passes the test
abbrev pub some_below : ℕ → (ℕ → Bool) → Bool
some_below zero test = false
some_below (suc n) test = some_below n test || test n

-- n numbers from k on: those that pass it, ascending
abbrev pub passing_from : ℕ → ℕ → (ℕ → Bool) → List ℕ
passing_from k zero test = []
passing_from k (suc n) test = if test k then k ∷ passing_from (k + 1) n test else passing_from (k + 1) n test

-- those below n that pass it, ascending
abbrev pub passing_below : ℕ → (ℕ → Bool) → List ℕ
passing_below n test = passing_from 0 n test

-- how many of these pass it
abbrev pub count : (ℕ → Bool) → List ℕ → ℕ
count test [] = 0
count test (s ∷ ss) = if test s then count test ss + 1 else count test ss

-- ---- puts and gets by number

-- the put's key
abbrev pub key_of_put : World → ℕ → List ℕ
key_of_put w v = elim (slice_get w.puts v) [ Some x ↦ x.key | None ↦ [] ]

-- the put's writer
abbrev pub writer_of : World → ℕ → ℕ
writer_of w v = elim (slice_get w.puts v) [ Some x ↦ x.writer | None ↦ 0 ]

-- the gets whose replies the put's writer knew
abbrev pub seen_of : World → ℕ → List ℕ
seen_of w v = elim (slice_get w.puts v) [ Some x ↦ x.seen | None ↦ [] ]

-- whether the put is acknowledged
abbrev pub is_acked : World → ℕ → Bool
is_acked w v = elim (slice_get w.puts v) [ Some x ↦ x.acked | None ↦ false ]

-- the generation at which the put was last written or hinted for the slot of that index, if it was
abbrev pub ticket_of : World → ℕ → ℕ → Option ℕ
ticket_of w v i = elim (slice_get w.puts v) [ Some x ↦ x.ticket i | None ↦ None ]

-- the get's key
abbrev pub key_of_get : World → ℕ → List ℕ
key_of_get w g = elim (slice_get w.gets g) [ Some x ↦ x.key | None ↦ [] ]

-- what the get found at the slot of that index, if it has read it
abbrev pub found_at : World → ℕ → ℕ → Option (List ℕ)
found_at w g i = elim (slice_get w.gets g) [ Some x ↦ x.found i | None ↦ None ]

-- the get's reply, if it has ended
abbrev pub reply_of : World → ℕ → Option (List ℕ)
reply_of w g = elim (slice_get w.gets g) [ Some x ↦ x.reply | None ↦ None ]

-- whether there is such a get, and it is of that key
abbrev pub is_get_of : World → List ℕ → ℕ → Bool
is_get_of w key g = elim (slice_get w.gets g) [ Some x ↦ bytes_eq x.key key | None ↦ false ]

-- whether the put is of that key
abbrev pub is_of_key : World → List ℕ → ℕ → Bool
is_of_key w key v = bytes_eq (key_of_put w v) key

-- ---- steps

-- the copy that step n is: the slot that it gives to the slot's mirror, and where it reads
abbrev pub copy_at : List Planned → ℕ → Option (Slot × Source)
copy_at plan n = option_and_then copy_of (step_at plan n)

-- the mirror that step n sets
abbrev pub mirror_at : List Planned → ℕ → Option (Slot × NodeId)
mirror_at plan n = option_and_then mirror_of (step_at plan n)

-- ---- slots and nodes now

-- the stage after the slot's finished steps
abbrev pub stage_now : RingValue → List Planned → World → Slot → Stage
stage_now ring plan w slot = stage ring plan slot (count w.done (steps_of plan slot))

-- how many of the slot's mirrors are finished
abbrev pub mirrors_done : List Planned → World → Slot → ℕ
mirrors_done plan w slot = count (λ s. w.done s && is_some (mirror_at plan s)) (steps_of plan slot)

-- these, and the losses whose node was in the slot's group
abbrev pub generation : List Planned → World → Slot → ℕ
generation plan w slot = mirrors_done plan w slot + w.lost slot

-- `in` at the start or joined, and not retired
abbrev pub is_member_now : RingValue → List Planned → World → ℕ → Bool
is_member_now ring plan w x = (is_member ring.nodes (record { 0 = x }) || some_step (λ n s. w.done n && is_join_of x s) 0 plan)
    && not (some_step (λ n s. w.done n && is_retire_of x s) 0 plan)

-- the slot of that partition and index
abbrev pub slot_at : ℕ → ℕ → Slot
slot_at p i = record { partition = p; index = i }

-- the slot of that index of a key's partition
abbrev pub slot_of : RingValue → List ℕ → ℕ → Slot
slot_of ring key i = slot_at (place_of ring.q key).partition i

-- whether the node keeps a hint for the slot
abbrev pub keeps : World → ℕ → Slot → Bool
keeps w x slot = some_below (length w.puts) (λ v. w.hinted x slot v)

-- whether it keeps one for another slot of the partition
abbrev pub keeps_other : RingValue → World → ℕ → Slot → Bool
keeps_other ring w x slot = some_below ring.n (λ i. not (i == slot.index) && keeps w x (sibling slot i))

-- whether it keeps one for any slot of the ring
abbrev pub keeps_any : RingValue → World → ℕ → Bool
keeps_any ring w x = some_below ring.q (λ p. some_below ring.n (λ i. keeps w x (slot_at p i)))

-- whether the node mirrors the slot in the stage
abbrev pub mirrors : Stage → ℕ → Bool
mirrors a x = elim a.mirror [ Some y ↦ x == y.0 | None ↦ false ]

-- whether it owns or mirrors the slot
abbrev pub is_served : Stage → ℕ → Bool
is_served a x = (x == a.owner.0) || mirrors a x

-- the slot's group: the owner, the mirror, and the keepers of hints for the slot
abbrev pub is_in_group : RingValue → List Planned → World → Slot → ℕ → Bool
is_in_group ring plan w slot x = is_served (stage_now ring plan w slot) x || keeps w x slot
