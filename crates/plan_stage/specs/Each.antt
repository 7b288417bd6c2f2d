-- Tests over the steps of a plan, and over numbers.
use Rattle.std.specs.Prelude.{ℕ, zero, suc, ◌+◌, Bool, true, false, ◌&&◌, ◌||◌, List, [], ◌∷◌, Option, Some, None, slice_get}
use Rattle.ring_names.specs.declared.ids.NodeId.{NodeId}
use Rattle.ring_names.specs.declared.ids.Slot.{Slot}
use Rattle.ring_table.specs.Value.{RingValue, owner_of}
use Rattle.plan_text.specs.declared.step.Step.{Step}
use Rattle.plan_text.specs.declared.step.Planned.{Planned}
use Rattle.plan_text.specs.Steps.{steps_of, is_slot, mirror_of, switch_of}
use Rattle.plan_stage.specs.Occupancy.{is_node}
use Rattle.plan_stage.specs.Parties.{count_below}

-- the step of that number
abbrev pub step_at : List Planned → ℕ → Option Step
step_at plan n = elim (slice_get plan n) [ Some x ↦ Some x.step | None ↦ None ]

-- the step of that number passes the test
abbrev pub passes : (Step → Bool) → List Planned → ℕ → Bool
passes test plan n = elim (step_at plan n) [ Some s ↦ test s | None ↦ false ]

-- whether a step, counted from n, passes the test
abbrev pub some_step : (ℕ → Step → Bool) → ℕ → List Planned → Bool
some_step test n [] = false
some_step test n (x ∷ xs) = test n x.step || some_step test (n + 1) xs

-- each step, counted from n, passes the test
abbrev pub each_step : (ℕ → Step → Bool) → ℕ → List Planned → Bool
each_step test n [] = true
each_step test n (x ∷ xs) = test n x.step && each_step test (n + 1) xs

-- each number below n passes the test
abbrev pub each_below : ℕ → (ℕ → Bool) → Bool
each_below zero test = true
each_below (suc n) test = each_below n test && test n

-- whether the step switches the slot
abbrev pub is_switch_of : Slot → Step → Bool
is_switch_of slot s = elim (switch_of s) [ Some t ↦ is_slot slot t | None ↦ false ]

-- whether the step sets the node as the slot's mirror
abbrev pub is_mirror_of : Slot → NodeId → Step → Bool
is_mirror_of slot x s = elim (mirror_of s) [ Some m ↦ is_slot slot m.0 && is_node x m.1 | None ↦ false ]

-- the node owns the slot before the first step
abbrev pub owns_first : RingValue → Slot → NodeId → Bool
owns_first ring s x = elim (owner_of ring s) [ Some y ↦ is_node x y | None ↦ false ]

-- the slot of that index in the partition
abbrev pub slot_in : ℕ → ℕ → Slot
slot_in p j = record { partition = p; index = j }

-- the slot of that index in the same partition
abbrev pub sibling : Slot → ℕ → Slot
sibling slot j = slot_in slot.partition j

-- the place of a step among those of its slot
abbrev pub place_in : List Planned → Slot → ℕ → ℕ
place_in plan slot n = count_below n (steps_of plan slot)
