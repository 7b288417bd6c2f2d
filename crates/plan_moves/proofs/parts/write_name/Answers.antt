use Rattle.std.proofs.Common.{◌≡◌, ◌∙◌, List, map, IsUtf8, sym, ap, subst}
use Rattle.ring_table.specs.declared.node.Node.{Node}
use Rattle.ring_table.specs.Value.{names_of}
use Rattle.ring_table.specs.Spelling.{name_at}
use Rattle.plan_moves.proofs.PlainNames.{name-utf8}
use Rattle.plan_moves.proofs.parts.write_name.Goals as goal

pub returns-in-Err-clause-memory : goal.returns-in-Err-clause-memory
returns-in-Err-clause-memory c =
    let name : c.name_of.result.now ≡ name_at (names_of c.args.ring.now) c.args.node = c.name_of.ensures
    ∙ ap (λ (ns : List Node). name_at (map (λ x. x.name) ns) c.args.node) c.nodes.ensures.value in
    let plain : IsUtf8 c.name_of.result.now = subst IsUtf8 (sym name) (name-utf8 c.args.ring.now c.args.node c.nodes.ensures.valid) in
    absurd (c.in-Err.ensures.cases.0 plain)
