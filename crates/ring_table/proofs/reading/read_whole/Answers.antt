use Rattle.texts.proofs.Lates.{late-whole, four-lines}
use Rattle.ring_table.specs.Reading.{ring_at}
use Rattle.ring_table.proofs.reading.read_whole.Goals as goal

pub returns-in_err-ring-clause-late : goal.returns-in_err-ring-clause-late
returns-in_err-ring-clause-late c = late-whole 4 5 c.from_residual.result c.in_err-ring.field-0.0 c.args.text.now c.of-lines.result c.read_ring_section.new.lines ring_at four-lines c.from_residual.ensures.1 c.of-lines.ensures c.in_err-ring.ensures.late
