use Rattle.texts.proofs.Lates.{late-whole, two-lines}
use Rattle.script_text.specs.Reading.{script_at}
use Rattle.script_text.proofs.reading.read_whole.Goals as goal

pub returns-in_err-script-clause-late : goal.returns-in_err-script-clause-late
returns-in_err-script-clause-late c = late-whole 2 3 c.from_residual.result c.in_err-script.field-0.0 c.args.text.now c.of-lines.result c.read_script_section.new.lines (script_at c.args.ring.now c.args.writers.now) two-lines c.from_residual.ensures.1 c.of-lines.ensures c.in_err-script.ensures.late
