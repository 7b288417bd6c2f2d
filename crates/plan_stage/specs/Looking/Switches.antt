-- How the checker looks at a clause: what a slot's later steps say of a holding, if each step fits the stage
-- before.
use Rattle.std.specs.Prelude.{◌≡◌, ℕ, true, List, [], ◌∷◌, Option, Some, None, reverse, if◌then◌else◌}
use Rattle.ring_names.specs.declared.ids.NodeId.{NodeId}
use Rattle.ring_names.specs.declared.ids.Slot.{Slot}
use Rattle.plan_text.specs.declared.step.Step.{Step}
use Rattle.plan_text.specs.declared.step.Planned.{Planned}
use Rattle.plan_text.specs.Steps.{is_on}
use Rattle.plan_stage.specs.declared.holding.Holding.{Holding}
use Rattle.plan_stage.specs.declared.behind.Behind.{Behind}
use Rattle.plan_stage.specs.Each.{step_at, passes, is_switch_of, is_mirror_of}
use Rattle.plan_stage.specs.Occupancy.{dropping}
use Rattle.plan_stage.specs.Looking.Drops.{dropped_in}
use Rattle.plan_stage.specs.Looking.Held.{held_of}

-- the first switch among these steps
abbrev pub next_switch : List Planned → Slot → List ℕ → Option ℕ
next_switch plan slot [] = None
next_switch plan slot (b ∷ bs) = if passes (is_switch_of slot) plan b then Some b else next_switch plan slot bs

-- the second
abbrev pub second_switch : List Planned → Slot → List ℕ → Option ℕ
second_switch plan slot [] = None
second_switch plan slot (b ∷ bs) = if passes (is_switch_of slot) plan b then next_switch plan slot bs else second_switch plan slot bs

-- a node that is mirrored leaves at the second switch from there
abbrev pub spans : List Planned → Slot → NodeId → List ℕ → List Holding
spans plan slot x [] = []
spans plan slot x (b ∷ bs) = if passes (is_mirror_of slot x) plan b
    then record { begin = Some b; end = second_switch plan slot bs; drop = dropping plan x slot bs } ∷ spans plan slot x bs
    else spans plan slot x bs

-- the drop that is kept of the node
abbrev pub drop_of : Behind → NodeId → Option ℕ
drop_of a x = dropped_in a.drops x

-- what is kept is what these steps say
pub record IsBehind (plan : List Planned) (slot : Slot) (a : Behind) (bs : List ℕ) : Type 0 where
  pub next : a.next_switch ≡ next_switch plan slot bs
  pub second : a.second_switch ≡ second_switch plan slot bs
  pub drops : (x : NodeId) → drop_of a x ≡ dropping plan x slot bs
  pub held : (x : NodeId) → held_of a.held x ≡ reverse (spans plan slot x bs)

-- what was kept of the steps behind now also covers the step with that number
abbrev pub GoesBehind : Behind → Behind → Step → ℕ → Type 0
GoesBehind old new step number = (plan : List Planned) (slot : Slot) (bs : List ℕ) → step_at plan number ≡ Some step → is_on slot step ≡ true
    → IsBehind plan slot old bs → IsBehind plan slot new (number ∷ bs)
