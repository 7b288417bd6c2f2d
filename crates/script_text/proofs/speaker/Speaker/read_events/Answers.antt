use Rattle.std.proofs.Common.{sym, ◌∙◌}
use Rattle.texts.proofs.Lates.{late-here}
use Rattle.script_text.specs.Reading.{events_at}
use Rattle.script_text.proofs.Growing.{grows-late}
use Rattle.script_text.proofs.ScriptForm.{script_growth}
use Rattle.script_text.proofs.ScriptLates.{events-at}
use Rattle.script_text.proofs.speaker.Speaker.read_events.Goals as goal

pub returns-in_err-add-clause-late : goal.returns-in_err-add-clause-late
returns-in_err-add-clause-late c =
    let line = rw (c.in_ok-fields.ensures.found.0, c.may_say-may.ensures) at c.in_ok-said.ensures.value in
    let other = sym c.begins.ensures ∙ c.events-test.true in
    let all = events-at c.args.self c.args.ring.now c.args.writers.now c.args.lines.now in
    late-here 1 c.from_residual-in_err-add.result c.args.lines.now c.next.new.self (events_at c.args.self c.args.ring.now c.args.writers.now c.args.lines.now)
    (grows-late (script_growth c.args.self c.args.ring.now) c.events.script c.events.writers c.args.lines.now c.events.lines c.next.new.self c.in_ok-fields.fields.fields c.in_ok-said.said _ other c.in_ok-fields.ensures.found.1 (sym line) c.events.invariant.forward (c.events.invariant.rest ∙ all))
