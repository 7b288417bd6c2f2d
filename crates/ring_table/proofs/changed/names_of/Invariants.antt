use Rattle.std.proofs.Common.{◌≡◌, map, take}
use Rattle.ring_table.proofs.changed.names_of.Given as goal

abbrev pub invariant-loop-node : goal.invariant-loop-node
invariant-loop-node l = l.names ≡ take l.node-index (map (λ x. x.name) l.nodes)
