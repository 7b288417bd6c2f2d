use Rattle.script_text.specs.Reading.{script_at}
use Rattle.script_text.specs.Valid.{AreWriters, IsScriptOf}
use Rattle.script_text.proofs.ScriptLaws.{kept-reads, section-found}
use Rattle.script_text.proofs.reading.read_script_section.Goals as goal

pub returns-clause-found : goal.returns-clause-found
returns-clause-found c =
    let ring = c.args.ring.now in
    let old = c.args.writers.now in
    let new = c.read_parts.new.writers in
    kept-reads c.read_parts.result (λ s. s) new c.read_parts.new.lines (script_at ring old c.args.lines.now)
    (λ s ns. AreWriters old → IsScriptOf ring old ns s) c.read_parts.ensures.read (section-found ring old c.args.lines.now)
