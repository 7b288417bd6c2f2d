use Rattle.std.proofs.Common.{sym, ap, ◌∙◌}
use Rattle.ring_names.specs.Names.{place}
use Rattle.ring_table.proofs.NodesLaws.{placed-name}
use Rattle.ring_table.proofs.ring.Ring.number_of.Goals as goal

pub returns-in-Some-clause-name : goal.returns-in-Some-clause-name
returns-in-Some-clause-name c =
    let kept = c.self.invariant in
    let name = c.args.name.now in
    placed-name c.self.inside.format c.self.inside.nodes.items name c.in-Some.number kept.ring.each_node (ap (λ names. place names name) (sym kept.names) ∙ sym c.in-Some.ensures)
