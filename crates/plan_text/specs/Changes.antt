-- Which plans make a change: which nodes join, and which leave.
use Rattle.std.specs.Prelude.{ℕ, Bool, true, ◌&&◌, List, map}
use Rattle.std.specs.List.{list_all}
use Rattle.ring_names.specs.declared.ids.NodeId.{NodeId}
use Rattle.ring_names.specs.Lists.{has}
use Rattle.plan_text.specs.declared.step.Step.{Step}
use Rattle.plan_text.specs.declared.step.Step.TheVariants.{Join, Mirror, Copy, Switch, Drop, Retire}
use Rattle.plan_text.specs.declared.step.Planned.{Planned}
use Rattle.plan_text.specs.Steps.{joined, retired}

-- the nodes' numbers
abbrev pub numbers : List NodeId → List ℕ
numbers nodes = map (λ x. x.0) nodes

-- the same nodes, in any order, and however often each is named
abbrev pub same_nodes : List ℕ → List ℕ → Bool
same_nodes xs ys = list_all (λ x. has x ys) xs && list_all (λ y. has y xs) ys

-- the plan's join steps name exactly the nodes that join, and its retire steps exactly those that leave
abbrev pub fulfils : List Planned → List NodeId → List NodeId → Bool
fulfils plan joins leaves = same_nodes (joined plan) (numbers joins) && same_nodes (retired plan) (numbers leaves)

-- a node that the step joins is to join, and one that the step retires is to leave
abbrev pub step_names : List NodeId → List NodeId → Step → Bool
step_names joins leaves (Join x) = has x.0 (numbers joins)
step_names joins leaves (Mirror s x) = true
step_names joins leaves (Copy s from) = true
step_names joins leaves (Switch s) = true
step_names joins leaves (Drop s x) = true
step_names joins leaves (Retire x) = has x.0 (numbers leaves)
