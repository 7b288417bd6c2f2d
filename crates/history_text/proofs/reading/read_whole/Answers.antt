use Rattle.texts.proofs.Lates.{late-whole, two-lines}
use Rattle.history_text.specs.Reading.{history_at}
use Rattle.history_text.proofs.reading.read_whole.Goals as goal

pub returns-in_err-history-clause-late : goal.returns-in_err-history-clause-late
returns-in_err-history-clause-late c = late-whole 2 3 c.from_residual.result c.in_err-history.field-0.0 c.args.text.now c.of-lines.result c.read_history_section.new.lines (history_at c.args.ring.now c.args.writers.now) two-lines c.from_residual.ensures.1 c.of-lines.ensures c.in_err-history.ensures.late
