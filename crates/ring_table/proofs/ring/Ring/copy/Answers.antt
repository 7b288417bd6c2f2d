use Rattle.std.proofs.Common.{◌≡◌, ◌∙◌}
use Rattle.ring_table.proofs.Changing.{members-none}
use Rattle.ring_table.proofs.ring.Ring.copy.Goals as goal

pub rebuild-requires : goal.rebuild-requires
rebuild-requires c =
    let nodes : c.in_ok-nodes.nodes.items ≡ c.args.self.now.nodes = c.in_ok-nodes.ensures ∙ members-none c.nodes.result.now ∙ c.nodes.ensures.value in
    rw (nodes, c.rows.ensures.value) c.rows.ensures.valid

pub returns-clause-ok : goal.returns-clause-ok
returns-clause-ok c =
    let nodes : c.in_ok-nodes.nodes.items ≡ c.args.self.now.nodes = c.in_ok-nodes.ensures ∙ members-none c.nodes.result.now ∙ c.nodes.ensures.value in
    rw (nodes, c.rows.ensures.value) at c.rebuild.ensures.ok
