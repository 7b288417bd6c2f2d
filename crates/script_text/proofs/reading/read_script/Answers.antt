use Rattle.std.proofs.Common.{◌≡◌, subst}
use Rattle.texts.specs.Judging.{Gives, map_ok}
use Rattle.script_text.specs.Reading.{script_reading}
use Rattle.script_text.specs.Spelling.{script_text}
use Rattle.script_text.specs.Valid.{AreWriters, IsScriptOf}
use Rattle.script_text.proofs.ScriptLaws.{kept-gives, read-found, read-only}
use Rattle.script_text.proofs.reading.read_script.Goals as goal

pub returns-clause-found : goal.returns-clause-found
returns-clause-found c =
    let ring = c.args.ring.now in
    let old = c.args.writers.now in
    let new = c.read_whole.new.writers in
    kept-gives c.read_whole.result (λ s. s) new (script_reading ring old c.args.text.now)
    (λ s ns. AreWriters old → IsScriptOf ring old ns s × (c.args.text.now ≡ script_text ring ns s)) c.read_whole.ensures.exact
    (read-found ring old c.args.text.now)

pub returns-clause-only : goal.returns-clause-only
returns-clause-only c = λ s names p e. subst (Gives (map_ok (λ x. (x, c.read_whole.new.writers)) c.read_whole.result))
    (read-only c.args.ring.now c.args.writers.now names c.args.text.now s c.n-slots.ensures.valid p e) c.read_whole.ensures.exact
