-- The nodes of a running store, by number.
use Rattle.std.specs.Prelude.{ℕ, Bool, false, not, ◌&&◌, List, Some, None, slice_get}
use Rattle.ring_table.specs.declared.node.Node.{Node}
use Rattle.store_parts.specs.declared.nodes.NodeNow.{NodeNow}

-- a node before the first step: up and joined where the ring declares it `in`
abbrev pub node_at_start : Node → NodeNow
node_at_start node = record { up = node.is_member; joined = node.is_member; retired = false }

-- whether the node is up
abbrev pub is_up_at : List NodeNow → ℕ → Bool
is_up_at nodes x = elim (slice_get nodes x) [ Some now ↦ now.up | None ↦ false ]

-- whether the node has joined and has not retired
abbrev pub is_member_at : List NodeNow → ℕ → Bool
is_member_at nodes x = elim (slice_get nodes x) [ Some now ↦ now.joined && not now.retired | None ↦ false ]
