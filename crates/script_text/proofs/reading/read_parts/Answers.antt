use Rattle.texts.proofs.Lates.{late-part}
use Rattle.script_text.specs.Reading.{section_at}
use Rattle.script_text.proofs.ScriptLates.{script-events}
use Rattle.script_text.proofs.reading.read_parts.Goals as goal

pub returns-in_err-script-clause-late : goal.returns-in_err-script-clause-late
returns-in_err-script-clause-late c = late-part 2 c.from_residual-in_err-script.result c.in_err-script.field-0.0 c.args.lines.now c.read_events.new.lines (section_at c.args.by c.args.ring.now c.args.writers.now c.args.lines.now) c.from_residual-in_err-script.ensures.1 c.in_err-script.ensures.late
    (λ p. (rw c.in_ok-header.ensures.line at p.0, script-events c.args.by c.args.ring.now c.args.writers.now c.args.lines.now c.header.new.lines c.in_ok-header.field-0 c.in_ok-header.ensures.read c.read_events.new.lines.line p.1))
