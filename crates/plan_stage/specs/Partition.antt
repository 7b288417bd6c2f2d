-- The clauses that a partition must meet, by a test of the order of two steps.
use Rattle.std.specs.Prelude.{ℕ, ◌+◌, ◌-◌, Bool, false, not, ◌&&◌, ◌||◌, ◌==◌, nat_lt}
use Rattle.std.specs.Prelude.{nat_le, List, [], ◌∷◌, ◌++◌, length, Option, Some, None, slice_index, if◌then◌else◌}
use Rattle.std.specs.List.{list_all}
use Rattle.ring_names.specs.Lists.{all_different}
use Rattle.ring_names.specs.declared.ids.NodeId.{NodeId}
use Rattle.ring_names.specs.declared.ids.Slot.{Slot}
use Rattle.ring_names.specs.declared.refusal.Refusal.TheVariants.{WrongStage, UnorderedSlot, BadSource, MovingSource, SharedInPlan, NotJoined, RetiredInUse}
use Rattle.ring_table.specs.Value.{RingValue, is_member}
use Rattle.plan_text.specs.declared.step.Source.TheVariants.{Owner, Slots}
use Rattle.plan_text.specs.declared.step.Step.{Step}
use Rattle.plan_text.specs.declared.step.Step.TheVariants.{Join, Mirror, Copy, Switch, Drop, Retire}
use Rattle.plan_text.specs.declared.step.Planned.{Planned}
use Rattle.plan_text.specs.Steps.{steps_of, is_join_of}
use Rattle.plan_stage.specs.declared.stage.Stage.{Stage}
use Rattle.plan_stage.specs.Stage.{stage}
use Rattle.plan_stage.specs.Clauses.{Guard, below, is_staged}
use Rattle.plan_stage.specs.Occupancy.{first_end, mirror_end, first_drop, mirror_drop}
use Rattle.plan_stage.specs.Each.{some_step, each_step, each_below, is_switch_of, is_mirror_of, owns_first, slot_in, sibling, place_in}

-- a test of the order of two steps
abbrev pub Test : Type 0
Test = ℕ → ℕ → Bool

-- there is such a step, and it comes before step t
abbrev pub ends_before : Test → Option ℕ → ℕ → Bool
ends_before O None t = false
ends_before O (Some e) t = O e t

-- ---- the clauses of one step

-- each switch of a listed slot comes before or after step n
abbrev pub is_settled : List Planned → Test → ℕ → Slot → List ℕ → Bool
is_settled plan O n slot from = list_all (λ j. each_step (λ m s. not (is_switch_of (sibling slot j) s) || (O m n || O n m)) 0 plan) from

-- before step t the node has left the slot, where it served it from the start or from an earlier step on
abbrev pub has_left_slot : RingValue → List Planned → Test → ℕ → Slot → NodeId → Bool
has_left_slot ring plan O t slot x = (not (owns_first ring slot x) || ends_before O (first_end ring plan slot) t)
    && each_step (λ b s. not (nat_lt b t && is_mirror_of slot x s) || ends_before O (mirror_end ring plan slot (place_in plan slot b) x) t) 0 plan

-- before step t the node has left each other slot of the partition that it served
abbrev pub has_left : RingValue → List Planned → Test → ℕ → Slot → NodeId → Bool
has_left ring plan O t slot x = each_below ring.n (λ j. (j == slot.index) || has_left_slot ring plan O t (sibling slot j) x)

-- a node that is `out` joins before step t
abbrev pub has_joined : RingValue → List Planned → Test → ℕ → NodeId → Bool
has_joined ring plan O t x = is_member ring.nodes x || some_step (λ j s. is_join_of x.0 s && O j t) 0 plan

-- before step t the node has dropped what it held of the slot
abbrev pub has_dropped_slot : RingValue → List Planned → Test → ℕ → Slot → NodeId → Bool
has_dropped_slot ring plan O t slot x = (not (owns_first ring slot x) || ends_before O (first_drop ring plan slot) t)
    && each_step (λ b s. not (is_mirror_of slot x s) || ends_before O (mirror_drop plan slot (place_in plan slot b) x) t) 0 plan

-- before step t the node has dropped all that it held of the partition
abbrev pub has_dropped : RingValue → List Planned → Test → ℕ → ℕ → NodeId → Bool
has_dropped ring plan O p t x = each_below ring.n (λ j. has_dropped_slot ring plan O t (slot_in p j) x)

-- a mirror of the node by step n
abbrev pub mirror_clauses : RingValue → List Planned → Test → ℕ → Slot → NodeId → List Guard
mirror_clauses ring plan O n slot x = (has_left ring plan O n slot x, SharedInPlan n) ∷ (has_joined ring plan O n x, NotJoined n) ∷ []

-- a copy by step n from listed slots
abbrev pub copy_clauses : RingValue → List Planned → Test → ℕ → Slot → List ℕ → List Guard
copy_clauses ring plan O n slot from = (all_different from && nat_le ring.r (length from), BadSource n)
    ∷ (is_settled plan O n slot from, MovingSource n) ∷ []

-- step n in partition p
abbrev pub step_clauses : RingValue → List Planned → Test → ℕ → ℕ → Step → List Guard
step_clauses ring plan O p n (Join x) = []
step_clauses ring plan O p n (Mirror slot x) = if slot.partition == p then mirror_clauses ring plan O n slot x else []
step_clauses ring plan O p n (Copy slot Owner) = []
step_clauses ring plan O p n (Copy slot (Slots from)) = if slot.partition == p then copy_clauses ring plan O n slot from else []
step_clauses ring plan O p n (Switch slot) = []
step_clauses ring plan O p n (Drop slot x) = []
step_clauses ring plan O p n (Retire x) = (has_dropped ring plan O p n x, RetiredInUse n) ∷ []

-- the clauses of each step, counted from n
abbrev pub steps_clauses : (ℕ → Step → List Guard) → ℕ → List Planned → List Guard
steps_clauses clauses n [] = []
steps_clauses clauses n (x ∷ xs) = clauses n x.step ++ steps_clauses clauses (n + 1) xs

-- ---- the clauses of a slot

-- the k-th of these steps fits the stage, and comes after the step in front of it
abbrev pub met_clauses : List Planned → Test → Stage → List ℕ → ℕ → List Guard
met_clauses plan O a numbers k = (is_staged plan a numbers k, WrongStage (slice_index numbers k))
    ∷ ((k == 0) || O (slice_index numbers (k - 1)) (slice_index numbers k), UnorderedSlot (slice_index numbers k)) ∷ []

-- those of the slot's k-th step, at the stage after the steps in front of it
abbrev pub slot_step_clauses : RingValue → List Planned → Test → Slot → ℕ → List Guard
slot_step_clauses ring plan O slot k = met_clauses plan O (stage ring plan slot k) (steps_of plan slot) k

-- those of all steps of the slot
abbrev pub slot_clauses : RingValue → List Planned → Test → Slot → List Guard
slot_clauses ring plan O slot = below (slot_step_clauses ring plan O slot) (length (steps_of plan slot))

-- a partition's slots by index, and then the plan's steps by number
abbrev pub partition_clauses : RingValue → List Planned → Test → ℕ → List Guard
partition_clauses ring plan O p = below (λ i. slot_clauses ring plan O (slot_in p i)) ring.n ++ steps_clauses (step_clauses ring plan O p) 0 plan
