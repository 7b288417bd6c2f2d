use Rattle.texts.proofs.Lates.{late-whole, two-lines}
use Rattle.change_text.specs.Reading.{change_at}
use Rattle.change_text.proofs.reading.read_whole.Goals as goal

pub returns-in_err-change-clause-late : goal.returns-in_err-change-clause-late
returns-in_err-change-clause-late c = late-whole 2 3 c.from_residual.result c.in_err-change.field-0.0 c.args.text.now c.of-lines.result c.read_change_section.new.lines (change_at c.args.ring.now) two-lines c.from_residual.ensures.1 c.of-lines.ensures c.in_err-change.ensures.late
