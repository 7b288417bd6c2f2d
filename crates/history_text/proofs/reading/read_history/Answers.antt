use Rattle.std.proofs.Common.{◌≡◌, subst}
use Rattle.texts.specs.Judging.{Gives, map_ok}
use Rattle.script_text.specs.Valid.{AreWriters}
use Rattle.history_text.specs.Reading.{history_reading}
use Rattle.history_text.specs.Spelling.{history_text}
use Rattle.history_text.specs.Valid.{IsHistoryOf}
use Rattle.script_text.proofs.ScriptLaws.{kept-gives}
use Rattle.history_text.proofs.HistoryLaws.{read-found, read-only}
use Rattle.history_text.proofs.reading.read_history.Goals as goal

pub returns-clause-found : goal.returns-clause-found
returns-clause-found c =
    let ring = c.args.ring.now in
    let old = c.args.writers.now in
    kept-gives c.read_whole.result (λ h. h.items) c.read_whole.new.writers (history_reading ring old c.args.text.now)
    (λ h names. AreWriters old → IsHistoryOf ring old names h × (c.args.text.now ≡ history_text ring names h)) c.read_whole.ensures.exact
    (read-found ring old c.args.text.now)

pub returns-clause-only : goal.returns-clause-only
returns-clause-only c = λ h names p e. subst (Gives (map_ok (λ x. (x.items, c.read_whole.new.writers)) c.read_whole.result))
    (read-only c.args.ring.now c.args.writers.now names c.args.text.now h c.n-slots.ensures.valid p e) c.read_whole.ensures.exact
