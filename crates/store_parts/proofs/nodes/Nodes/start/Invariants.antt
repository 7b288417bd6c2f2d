use Rattle.std.proofs.Common.{◌≡◌, ◌≤◌, map, take, length}
use Rattle.std.specs.Vec.{vec_capacity}
use Rattle.store_parts.specs.Nodes.{node_at_start}
use Rattle.store_parts.proofs.nodes.Nodes.start.Given as goal

abbrev pub invariant-loop-node : goal.invariant-loop-node
invariant-loop-node l = record {
  room : length l.node-items ≤ vec_capacity l.nodes;
  nodes : l.nodes.items ≡ map node_at_start (take l.node-index l.node-items);
}
