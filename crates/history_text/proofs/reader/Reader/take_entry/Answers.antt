use Rattle.std.proofs.Common.{◌≢◌, [], ◌∷◌, ◌++◌, inr, sym, ap, ◌∙◌}
use Rattle.ring_table.specs.Value.{RingValue}
use Rattle.ring_names.specs.declared.refusal.Refusal.{Refusal}
use Rattle.ring_names.specs.declared.refusal.Refusal.TheVariants.{OutOfMemory, TooLarge}
use Rattle.history_text.specs.Said.{said_of}
use Rattle.history_text.specs.Reading.{said_at}
use Rattle.history_text.specs.declared.reader.Reader.{Reader}
use Rattle.history_text.specs.State.{RefusesEntry, started}
use Rattle.history_text.proofs.Readings.{count_on, last_start, reading_on}
use Rattle.history_text.proofs.Takings.{if_err}
use Rattle.history_text.proofs.reader.Reader.take_entry.Goals as goal

pub returns-in_err-count-clause-err : goal.returns-in_err-count-clause-err
returns-in_err-count-clause-err c =
    let old = c.args.self.now in
    let e = c.in_err-count.field-0.0 in
    if_err c.from_residual-in_err-count.result e (λ (x : Refusal). x ≢ OutOfMemory → RefusesEntry old c.args.fields.number c.args.fields.fields x) c.from_residual-in_err-count.ensures.1
    (λ ne ring taken said so. inr (
      said_of c.in_ok-said.said,
      ap (λ (r : RingValue). said_at r [] old.writers c.args.fields.number c.args.fields.fields) (sym so.ring_is) ∙ sym c.in_ok-said.ensures.value,
      c.in_err-count.ensures.err.0 ∙ ap TooLarge c.line-line.ensures,
      last_start ring taken said old (said_of c.in_ok-said.said) c.in_ok-entry.entry so c.in_ok-entry.ensures.ok c.in_err-count.ensures.err.2 c.in_err-count.ensures.err.1,
    ))

pub returns-clause-counted : goal.returns-clause-counted
returns-clause-counted c =
    let n = c.in_ok-count.ensures.ok in
    let entry = c.in_ok-entry.entry in
    let pushed = c.in_ok-push.ensures.items ∙ ap (λ (r : Reader). r.entries.items ++ entry ∷ []) n.same in
    count_on c.args.self.now _ entry pushed (ap (λ (r : Reader). r.started) n.same) n.few

pub returns-clause-ok : goal.returns-clause-ok
returns-clause-ok c = λ ring taken said so. (
    let old = c.args.self.now in
    let n = c.in_ok-count.ensures.ok in
    let entry = c.in_ok-entry.entry in
    let x = said_of c.in_ok-said.said in
    let pushed = c.in_ok-push.ensures.items ∙ ap (λ (r : Reader). r.entries.items ++ entry ∷ []) n.same in
    let counted = count_on old _ entry pushed (ap (λ (r : Reader). r.started) n.same) n.few (started taken) so.counted in
    let read = ap (λ (r : RingValue). said_at r [] old.writers c.args.fields.number c.args.fields.fields) (sym so.ring_is) ∙ sym c.in_ok-said.ensures.value in (
      x,
      read,
      reading_on ring taken said old _ x entry c.args.fields.number c.args.fields.fields so read c.in_ok-entry.ensures.ok (ap (λ (r : Reader). r.writers) n.same ∙ c.in_ok-entry.ensures.names) (ap (λ (r : Reader). r.ring.now) n.same) pushed counted,
    ))
