use Rattle.std.proofs.Common.{sym, ◌∙◌}
use Rattle.texts.proofs.Lates.{at-is, residual-at}
use Rattle.ring_table.specs.Reading.{format_at, space_at, loss_at, quorum_at}
use Rattle.ring_table.proofs.RingForm.{format_line, space_line, quorum_line}
use Rattle.ring_table.proofs.RingLates.{format-at, space-at, quorum-at}
use Rattle.ring_table.proofs.head.read_head.Goals as goal

pub returns-in_err-format-clause-memory : goal.returns-in_err-format-clause-memory
returns-in_err-format-clause-memory c =
    let k = c.in_ok-next.field-0.number in
    let fields = c.in_ok-next.field-0.fields in
    residual-at k c.from_residual-in_err-format.result c.in_err-format.field-0.0 c.from_residual-in_err-format.ensures.1 (at-is k c.in_err-format.field-0.0 (format_at k fields) (sym c.format_line.ensures ∙ c.in_err-format.was) (format-at k fields))

pub returns-in_err-q-clause-memory : goal.returns-in_err-q-clause-memory
returns-in_err-q-clause-memory c =
    let k = c.in_ok-next-2.field-0.number in
    let fields = c.in_ok-next-2.field-0.fields in
    residual-at k c.from_residual-in_err-q.result c.in_err-q.field-0.0 c.from_residual-in_err-q.ensures.1 (at-is k c.in_err-q.field-0.0 (space_at k fields) (sym c.space_line.ensures ∙ c.in_err-q.was) (space-at k fields))

pub returns-in_err-quorum-clause-memory : goal.returns-in_err-quorum-clause-memory
returns-in_err-quorum-clause-memory c =
    let k = c.in_ok-next-3.field-0.number in
    let fields = c.in_ok-next-3.field-0.fields in
    residual-at k c.from_residual-in_err-quorum.result c.in_err-quorum.field-0.0 c.from_residual-in_err-quorum.ensures.1 (at-is k c.in_err-quorum.field-0.0 (quorum_at c.in_ok-format.format k fields) (sym c.quorum_line.ensures ∙ c.in_err-quorum.was) (quorum-at c.in_ok-format.format k fields))

pub returns-clause-valid : goal.returns-clause-valid
unfolding format_at space_at quorum_at loss_at
returns-clause-valid c =
    let format = ((format_line {W = Unit {0}}).exact tt c.in_ok-next.field-0.number).takes c.in_ok-next.field-0.fields c.in_ok-format.format (sym c.format_line.ensures ∙ c.in_ok-format.was) in
    let space = ((space_line {W = Unit {0}}).exact tt c.in_ok-next-2.field-0.number).takes c.in_ok-next-2.field-0.fields c.in_ok-q.q (sym c.space_line.ensures ∙ c.in_ok-q.was) in
    let quorum = ((quorum_line {W = Unit {0}} c.in_ok-format.format).exact tt c.in_ok-next-3.field-0.number).takes c.in_ok-next-3.field-0.fields c.in_ok-quorum.quorum (sym c.quorum_line.ensures ∙ c.in_ok-quorum.was) in
    record { format = format.1.1; space = space.1; slots = quorum.1.0; loss = quorum.1.1.0; quorum = quorum.1.1.1 }
