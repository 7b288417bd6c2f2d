use Rattle.std.proofs.Common.{codes, sym, ◌∙◌}
use Rattle.texts.proofs.Lates.{late-here, many-late}
use Rattle.texts.specs.Left.{is_word, many_from}
use Rattle.ring_table.specs.Kept.{node_of}
use Rattle.ring_table.specs.Reading.{node_at}
use Rattle.ring_table.proofs.RingLates.{node-at}
use Rattle.ring_table.proofs.declared.read_into.Goals as goal

pub returns-in_err-push-clause-late : goal.returns-in_err-push-clause-late
returns-in_err-push-clause-late c =
    let line = rw c.in_ok-fields.ensures.found.0 at c.in_ok-said.ensures.value in
    late-here 1 c.from_residual-in_err-push.result c.args.lines.now c.next.new.self (many_from (is_word (codes "node")) (node_at c.args.format) c.args.declared.now c.args.lines.now.line c.args.lines.now.lines)
    (many-late (is_word (codes "node")) (node_at c.args.format) (node-at c.args.format) c.nodes.declared c.args.lines.now c.nodes.lines c.next.new.self c.in_ok-fields.fields.fields (node_of c.in_ok-said.said) _ (sym c.begins.ensures ∙ c.nodes-test.true) c.in_ok-fields.ensures.found.1 (sym line) c.nodes.invariant.forward c.nodes.invariant.rest)
