use Rattle.texts.proofs.Lates.{late-part}
use Rattle.history_text.specs.Reading.{entries_at}
use Rattle.history_text.proofs.HistoryLates.{entries-at}
use Rattle.history_text.proofs.reading.read_entries.Goals as goal

pub returns-in_err-read_into-clause-late : goal.returns-in_err-read_into-clause-late
returns-in_err-read_into-clause-late c =
    let late = rw (c.new-history.ensures.items, entries-at c.args.ring.now c.args.writers.now c.args.lines.now) at c.in_err-read_into.ensures.late in
    late-part 1 c.from_residual.result c.in_err-read_into.field-0.0 c.args.lines.now c.read_into.new.lines (entries_at c.args.ring.now c.args.writers.now c.args.lines.now) c.from_residual.ensures.1 late (λ p. p)
