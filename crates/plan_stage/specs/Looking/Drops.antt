-- How the checker looks at a clause: the drops of nodes that are kept.
use Rattle.std.specs.Prelude.{ℕ, List, Option, Some, None, option_map, reverse}
use Rattle.std.specs.List.{find}
use Rattle.std.specs.HashMap as map
use Rattle.ring_names.specs.contracts.ids.NodeIdPartialEq.TheImpl as node_eq
use Rattle.ring_names.specs.declared.ids.NodeId.{NodeId}
use Rattle.plan_stage.specs.declared.drops.Dropped.{Dropped}
use Rattle.plan_stage.specs.declared.drops.Drops.{Drops}
use Rattle.plan_stage.specs.Occupancy.{is_node}

-- the last drop of the node among these
abbrev pub dropped_among : List Dropped → NodeId → Option ℕ
dropped_among ds x = option_map (λ d. d.number) (find (λ d. is_node x d.node) (reverse ds))

-- the drop that is kept of the node: one among the others was set later than those among the first
abbrev pub dropped_in : Drops → NodeId → Option ℕ
dropped_in a x = elim a.others [
  | None ↦ dropped_among a.first x
  | Some others ↦ elim (map.get ((node_eq.ghosts).eq) others.value x) [ Some n ↦ Some n | None ↦ dropped_among a.first x ]
]
