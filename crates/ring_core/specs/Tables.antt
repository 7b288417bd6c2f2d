-- What is asked of a world without changing it.
use Rattle.std.specs.Prelude.{◌≡◌, ℕ, zero, suc, ◌<◌, ◌≤◌, Bool, true, false, not, ◌&&◌, ◌||◌, List, [], ◌∷◌, ◌++◌, length, Some, None}
use Rattle.ring_names.specs.declared.ids.NodeId.{NodeId}
use Rattle.ring_names.specs.declared.ids.Slot.{Slot}
use Rattle.ring_table.specs.Value.{RingValue}
use Rattle.plan_text.specs.declared.step.Planned.{Planned}
use Rattle.plan_text.specs.Steps.{steps_of}
use Rattle.plan_stage.specs.Stage.{stage}
use Rattle.store_parts.specs.declared.steps.StepNow.{StepNow}
use Rattle.store_parts.specs.Slots.{slot_now}
use Rattle.store_parts.specs.Steps.{is_done_at, is_open_at}
use Rattle.store_parts.specs.GuardsKept.{is_ready_kept}
use Rattle.store_parts.specs.Kept.{Kept}
use Rattle.plan_runs.specs.Guards.{is_ready}
use Rattle.plan_runs.specs.World.{World, passing_below, stage_now, slot_at}

-- the values at the numbers below n, in order
abbrev pub values_below : {A : Type 0} → ℕ → (ℕ → A) → List A
values_below zero f = []
values_below (suc n) f = values_below n f ++ f n ∷ []

-- a node for each slot, by partition and index
abbrev pub table_of : RingValue → (Slot → NodeId) → List (List NodeId)
table_of ring owner = values_below ring.q (λ p. values_below ring.n (λ i. owner (slot_at p i)))

-- the owners of all slots now
abbrev pub owners_now : RingValue → List Planned → World → List (List NodeId)
owners_now ring plan w = table_of ring (λ slot. (stage_now ring plan w slot).owner)

-- the owners of all slots after their last steps
abbrev pub owners_last : RingValue → List Planned → List (List NodeId)
owners_last ring plan = table_of ring (λ slot. (stage ring plan slot (length (steps_of plan slot))).owner)

-- the owner of a slot, by the slots that are kept; the first node where the slot is not
abbrev pub owner_kept : Kept → Slot → NodeId
owner_kept k slot = elim (slot_now k.rows slot) [ Some x ↦ x.owner | None ↦ record { 0 = 0 } ]

-- every step is done
abbrev pub AllDone : List Planned → World → Type 0
AllDone plan w = (n : ℕ) → n < length plan → w.done n ≡ true

-- how many steps are not done
abbrev pub left_of : List Planned → World → ℕ
left_of plan w = length (passing_below (length plan) (λ n. not (w.done n)))

-- the step is neither done nor open, and its direct dependencies are done
abbrev pub can_begin : List Planned → World → ℕ → Bool
can_begin plan w n = not (w.done n || w.is_open n) && is_ready plan w n

-- it is the least step from a on that can begin
abbrev pub IsNextStep : List Planned → World → ℕ → ℕ → Type 0
IsNextStep plan w a n = (a ≤ n) × (n < length plan) × (can_begin plan w n ≡ true) × ((m : ℕ) → a ≤ m → m < n → can_begin plan w m ≡ false)

-- no step from a on can begin
abbrev pub NoNextStep : List Planned → World → ℕ → Type 0
NoNextStep plan w a = (m : ℕ) → a ≤ m → m < length plan → can_begin plan w m ≡ false

-- the same by the steps that are kept
abbrev pub can_begin_kept : List Planned → List StepNow → ℕ → Bool
can_begin_kept plan steps n = not (is_done_at steps n || is_open_at steps n) && is_ready_kept plan steps n
