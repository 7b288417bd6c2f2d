use Rattle.texts.proofs.Lates.{late-part}
use Rattle.history_text.specs.Reading.{history_at}
use Rattle.history_text.proofs.HistoryLates.{history-entries}
use Rattle.history_text.proofs.reading.read_parts.Goals as goal

pub returns-in_err-history-clause-late : goal.returns-in_err-history-clause-late
returns-in_err-history-clause-late c = late-part 2 c.from_residual-in_err-history.result c.in_err-history.field-0.0 c.args.lines.now c.read_entries.new.lines (history_at c.args.ring.now c.args.writers.now c.args.lines.now) c.from_residual-in_err-history.ensures.1 c.in_err-history.ensures.late
    (λ p. (rw c.in_ok-header.ensures.line at p.0, history-entries c.args.ring.now c.args.writers.now c.args.lines.now c.header.new.lines c.in_ok-header.field-0 c.in_ok-header.ensures.read c.read_entries.new.lines.line p.1))
