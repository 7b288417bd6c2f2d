use Rattle.std.proofs.Common.{◌≡◌, map, sym, subst, rules}
use Rattle.ring_table.specs.declared.node.Node.{Node}
use Rattle.ring_table.specs.Valid.{EachIsName}
use Rattle.ring_table.proofs.NodesLaws.{each-name}
use Rattle.ring_table.proofs.ring.Ring.rebuild.Goals as goal

pub invariant_of-assemble : goal.invariant_of-assemble
invariant_of-assemble c =
    let same : c.in_ok-names.names ≡ map (λ (x : Node). x.name) c.args.nodes.items = search rules in
    (same, c.requires.nodes, subst EachIsName (sym same) (each-name c.args.self.now.format c.args.nodes.items c.requires.each_node))
