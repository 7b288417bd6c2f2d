-- What holds of a plan as it is kept.
use Rattle.std.specs.Prelude.{◌≡◌, ℕ, Bool, List, Option, is_some}
use Rattle.std.specs.HashMap as map
use Rattle.ring_names.specs.Lists.{has, all_different}
use Rattle.ring_names.specs.declared.ids.Slot.{Slot}
use Rattle.ring_names.specs.contracts.ids.NodeIdPartialEq.TheImpl as node_eq
use Rattle.plan_text.specs.declared.step.Planned.{Planned}
use Rattle.plan_text.specs.declared.index.NodeIndex.{NodeIndex}
use Rattle.plan_text.specs.declared.index.Index.{Index}
use Rattle.plan_text.specs.SlotSteps.{numbers_at}
use Rattle.plan_text.specs.Steps.{steps_of, joined, retired, join_of, retirement_of}

-- the number of the first step that met the node
abbrev pub first_of : NodeIndex → ℕ → Option ℕ
first_of a x = map.get ((node_eq.ghosts).eq) a.firsts (record { 0 = x })

-- whether the index has met the node
abbrev pub holds : NodeIndex → ℕ → Bool
holds a x = is_some (first_of a x)

-- the index has met these nodes, each first in the step that is told
pub record HoldsNodes (a : NodeIndex) (xs : List ℕ) (first : ℕ → Option ℕ) : Type 0 where
  pub nodes : (x : ℕ) → holds a x ≡ has x xs
  pub firsts : (x : ℕ) → first_of a x ≡ first x
  pub different : a.different ≡ all_different xs

-- the index is the plan's
pub record HoldsSteps (a : Index) (plan : List Planned) : Type 0 where
  pub slots : (s : Slot) → numbers_at a.slots s ≡ steps_of plan s
  pub joins : HoldsNodes a.joins (joined plan) (join_of plan)
  pub retirements : HoldsNodes a.retirements (retired plan) (retirement_of plan)
