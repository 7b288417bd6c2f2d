use Rattle.std.proofs.Common.{◌≡◌, ◌≤◌, false, codes, sym, ap, subst, ◌∙◌}
use Rattle.texts.specs.Left.{Left, begins_with}
use Rattle.texts.proofs.Lates.{late-here}
use Rattle.history_text.specs.Said.{said_of}
use Rattle.history_text.specs.Reading.{entries_from}
use Rattle.script_text.proofs.Growing.{grows-late}
use Rattle.history_text.proofs.HistoryLaws.{history_growth}
use Rattle.history_text.proofs.reading.read_into.Goals as goal

pub returns-in_err-add-clause-late : goal.returns-in_err-add-clause-late
returns-in_err-add-clause-late c =
    let ring = c.args.ring.now in
    let seen = c.take_plain.new.history.items in
    let lines = c.take_plain.new.lines in
    let total = entries_from ring c.args.seen.now.items c.args.writers.now c.args.lines.now.line c.args.lines.now.lines in
    let same_seen : seen ≡ c.entries.seen.items = c.take_plain.ensures.history c.if-take_plain.false in
    let same_lines : lines ≡ c.entries.lines = c.take_plain.ensures.lines c.if-take_plain.false in
    let line = rw (c.in_ok-fields.ensures.found.0, c.as_slice.ensures.value) at c.in_ok-said.ensures.value in
    let other : begins_with (codes "end") lines.lines ≡ false = ap (λ (l : Left). begins_with (codes "end") l.lines) same_lines ∙ sym c.begins.ensures ∙ c.entries-test.true in
    let forward = subst (λ (l : Left). c.args.lines.now.line ≤ l.line) (sym same_lines) c.entries.invariant.forward in
    let rest : entries_from ring seen c.entries.writers lines.line lines.lines ≡ total =
    ap (λ s. entries_from ring s c.entries.writers lines.line lines.lines) same_seen ∙ ap (λ (l : Left). entries_from ring c.entries.seen.items c.entries.writers l.line l.lines) same_lines ∙ c.entries.invariant.rest in
    late-here 1 c.from_residual-in_err-add.result c.args.lines.now c.next.new.self total
    (grows-late (history_growth ring) seen c.entries.writers c.args.lines.now lines c.next.new.self c.in_ok-fields.fields.fields (said_of c.in_ok-said.said) total other c.in_ok-fields.ensures.found.1 (sym line) forward rest)
