-- The steps of a plan, and those of each slot.
use Rattle.std.specs.Prelude.{ℕ, ◌+◌, Bool, false, ◌&&◌, ◌==◌, List, [], ◌∷◌, Option, Some, None, length, slice_get, sum_by, if◌then◌else◌}
use Rattle.std.specs.List.{flat_map}
use Rattle.ring_names.specs.declared.ids.NodeId.{NodeId}
use Rattle.ring_names.specs.declared.ids.Slot.{Slot}
use Rattle.ring_names.specs.Lists.{has}
use Rattle.plan_text.specs.declared.step.Source.{Source}
use Rattle.plan_text.specs.declared.step.Step.{Step}
use Rattle.plan_text.specs.declared.step.Step.TheVariants.{Join, Mirror, Copy, Switch, Drop, Retire}
use Rattle.plan_text.specs.declared.step.Planned.{Planned}

-- the two are one slot
abbrev pub is_slot : Slot → Slot → Bool
is_slot s t = (s.partition == t.partition) && (s.index == t.index)

-- whether the step is one of the slot's
abbrev pub is_on : Slot → Step → Bool
is_on s (Join x) = false
is_on s (Mirror t x) = is_slot s t
is_on s (Copy t from) = is_slot s t
is_on s (Switch t) = is_slot s t
is_on s (Drop t x) = is_slot s t
is_on s (Retire x) = false

-- the copy that the step is: the slot that it gives to the slot's mirror, and where it reads
abbrev pub copy_of : Step → Option (Slot × Source)
copy_of (Copy s from) = Some (s, from)
copy_of (Join x) = None
copy_of (Mirror s x) = None
copy_of (Switch s) = None
copy_of (Drop s x) = None
copy_of (Retire x) = None

-- the mirror that the step sets: the slot, and the node that takes its writes too
abbrev pub mirror_of : Step → Option (Slot × NodeId)
mirror_of (Mirror s x) = Some (s, x)
mirror_of (Join x) = None
mirror_of (Copy s from) = None
mirror_of (Switch s) = None
mirror_of (Drop s x) = None
mirror_of (Retire x) = None

-- the slot that the step switches
abbrev pub switch_of : Step → Option Slot
switch_of (Switch s) = Some s
switch_of (Join x) = None
switch_of (Mirror s x) = None
switch_of (Copy s from) = None
switch_of (Drop s x) = None
switch_of (Retire x) = None

-- the numbers of the slot's steps, in a plan whose first step has number k
abbrev pub steps_from : ℕ → List Planned → Slot → List ℕ
steps_from k [] s = []
steps_from k (x ∷ xs) s = if is_on s x.step then k ∷ steps_from (k + 1) xs s else steps_from (k + 1) xs s

-- the numbers of the slot's steps, ascending
abbrev pub steps_of : List Planned → Slot → List ℕ
steps_of plan s = steps_from 0 plan s

-- whether a is a direct dependency of b
abbrev pub depends : List Planned → ℕ → ℕ → Bool
depends plan a b = elim (slice_get plan b) [ Some x ↦ has a x.after | None ↦ false ]

-- how many dependencies the steps have together
abbrev pub dependencies : List Planned → ℕ
dependencies plan = sum_by (λ x. length x.after) plan

-- the node that the step joins, and the one that it retires
abbrev pub joins : Step → List ℕ
joins (Join x) = x.0 ∷ []
joins (Mirror s x) = []
joins (Copy s from) = []
joins (Switch s) = []
joins (Drop s x) = []
joins (Retire x) = []

-- the node that the step retires
abbrev pub retires : Step → List ℕ
retires (Join x) = []
retires (Mirror s x) = []
retires (Copy s from) = []
retires (Switch s) = []
retires (Drop s x) = []
retires (Retire x) = x.0 ∷ []

-- the nodes that the steps join, and those that they retire, in order
abbrev pub joined : List Planned → List ℕ
joined plan = flat_map (λ x. joins x.step) plan

-- the nodes that the steps retire, in order
abbrev pub retired : List Planned → List ℕ
retired plan = flat_map (λ x. retires x.step) plan

-- whether the step joins the node, whether it retires it
abbrev pub is_join_of : ℕ → Step → Bool
is_join_of x (Join y) = x == y.0
is_join_of x (Mirror s y) = false
is_join_of x (Copy s from) = false
is_join_of x (Switch s) = false
is_join_of x (Drop s y) = false
is_join_of x (Retire y) = false

-- whether the step retires the node
abbrev pub is_retire_of : ℕ → Step → Bool
is_retire_of x (Join y) = false
is_retire_of x (Mirror s y) = false
is_retire_of x (Copy s from) = false
is_retire_of x (Switch s) = false
is_retire_of x (Drop s y) = false
is_retire_of x (Retire y) = x == y.0

-- the number of the first step that passes the test, in a plan whose first step has number k
abbrev pub first_step : (Step → Bool) → ℕ → List Planned → Option ℕ
first_step test k [] = None
first_step test k (x ∷ xs) = if test x.step then Some k else first_step test (k + 1) xs

-- the step that joins the node, and the one that retires it
abbrev pub join_of : List Planned → ℕ → Option ℕ
join_of plan x = first_step (is_join_of x) 0 plan

-- the step that retires the node
abbrev pub retirement_of : List Planned → ℕ → Option ℕ
retirement_of plan x = first_step (is_retire_of x) 0 plan
