use Rattle.script_text.specs.Valid.{AreWriters}
use Rattle.history_text.specs.Reading.{history_at}
use Rattle.history_text.specs.Valid.{IsHistoryOf}
use Rattle.script_text.proofs.ScriptLaws.{kept-reads}
use Rattle.history_text.proofs.HistoryLaws.{section-found}
use Rattle.history_text.proofs.reading.read_history_section.Goals as goal

pub returns-clause-found : goal.returns-clause-found
returns-clause-found c =
    let ring = c.args.ring.now in
    let old = c.args.writers.now in
    kept-reads c.read_parts.result (λ h. h.items) c.read_parts.new.writers c.read_parts.new.lines (history_at ring old c.args.lines.now)
    (λ h names. AreWriters old → IsHistoryOf ring old names h) c.read_parts.ensures.read (section-found ring old c.args.lines.now)
