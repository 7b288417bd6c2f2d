use Rattle.std.proofs.Common.{sym, ◌∙◌, arith}
use Rattle.texts.proofs.Items.{both_is}
use Rattle.ring_table.proofs.row.+owners.Goals as goal

pub push_front-requires : goal.push_front-requires
push_front-requires t c =
    let h = both_is c.declared_node-first.result c.owners-others.result (c.in-Ok.owner, c.in-Ok.row) (sym c.both.ensures ∙ c.in-Ok.is) in
    let len = rw h.1 at c.owners-others.ensures.len in
    omega (arith, len)

pub returns-in-Ok-clause-len : goal.returns-in-Ok-clause-len
returns-in-Ok-clause-len t c =
    let h = both_is c.declared_node-first.result c.owners-others.result (c.in-Ok.owner, c.in-Ok.row) (sym c.both.ensures ∙ c.in-Ok.is) in
    let len = rw h.1 at c.owners-others.ensures.len in
    rw c.push_front.ensures (omega (arith, len))
