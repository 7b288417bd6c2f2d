use Rattle.std.proofs.Common.{◌∙◌, List, ◌++◌, map, ap, arith}
use Rattle.texts.specs.Parts.{text_of}
use Rattle.ring_table.specs.declared.node.Node.{Node}
use Rattle.ring_table.specs.Spelling.{rows_lines}
use Rattle.ring_table.proofs.LineLaws.{space-le}
use Rattle.ring_script.proofs.Played.{table_shown}
use Rattle.ring_script.proofs.playing.push_table.Goals as goal

pub push_owners-requires : goal.push_owners-requires
push_owners-requires c =
    let most = space-le c.args.ring.now.q c.nodes.ensures.valid.space in
    let rows = c.requires in
    omega arith

pub returns : goal.returns
returns c =
    let out = c.args.out.now.items in
    table_shown c.args.ring.now c.args.rows.now out c.push_owners.new.out.items c.extend_from_slice.new.self.items
    (c.in_ok-push_owners.ensures ∙ ap (λ (ns : List Node). out ++ text_of (rows_lines (map (λ x. x.name) ns) 0 c.args.rows.now)) c.nodes.ensures.value) c.in_ok-extend_from_slice.ensures.items
