use Rattle.texts.proofs.Lates.{late-part}
use Rattle.ring_table.specs.Reading.{second_at, allowance_at, node_at, nodes_at}
use Rattle.texts.proofs.MoreForms.{to-some}
use Rattle.ring_table.proofs.RingForm.{IsOther, lines_form}
use Rattle.ring_table.proofs.declared.read_nodes.Goals as goal

pub returns-in_err-read_into-clause-late : goal.returns-in_err-read_into-clause-late
unfolding nodes_at node_at allowance_at second_at
returns-in_err-read_into-clause-late c =
    let late = rw c.new-declared.ensures at c.in_err-read_into.ensures.late in
    late-part 1 c.from_residual.result c.in_err-read_into.field-0.0 c.args.lines.now c.read_into.new.lines (nodes_at c.args.format c.args.lines.now) c.from_residual.ensures.1 late (λ p. (p.0, to-some IsOther (lines_form {W = Unit {0}} c.args.format) c.read_into.new.lines.line c.args.lines.now p.1))
