use Rattle.std.proofs.Common.{◌≡◌, ℕ, ◌∷◌, sym, ap, refl, ◌∙◌}
use Rattle.std.specs.Prelude.{◌≢◌, codes}
use Rattle.ring_names.specs.declared.refusal.Refusal.{Refusal}
use Rattle.ring_names.specs.declared.refusal.Refusal.TheVariants.{OutOfMemory}
use Rattle.texts.specs.Judging.{Line, end_at}
use Rattle.texts.specs.Left.{next_number}
use Rattle.texts.specs.Parts.{fields_of}
use Rattle.texts.specs.Frames.{end_line_at}
use Rattle.history_text.specs.State.{RefusesLine}
use Rattle.history_text.proofs.Resumes.{end_is}
use Rattle.history_text.proofs.Takings.{end_err, end_ok, goes, if_err, next_err, next_ok}
use Rattle.history_text.proofs.reader.Reader.take_next.Goals as goal

pub returns-then-takes-clause-ok : goal.returns-then-takes-clause-ok
returns-then-takes-clause-ok c =
    let line = c.args.self.now.line in
    let rest = c.takes.new.self.fields in
    let first : fields_of c.args.text.now ≡ codes "end" ∷ rest = sym (ap (λ (l : Line). l.fields) c.of-fields.ensures) ∙ c.takes.ensures.taken c.if-takes.true in
    let number : c.takes.new.self.number ≡ line = c.takes.ensures.line ∙ ap (λ (l : Line). l.number) c.of-fields.ensures in
    let end = ap (end_line_at line) first ∙ end_is line rest c.take_end.result (c.take_end.ensures.end ∙ ap (λ (k : ℕ). (end_at k rest).0) number) in
    end_ok c.args.self.now c.take_end.new.self c.args.text.now rest c.requires.stage first c.take_end.result end c.take_end.ensures.ok

pub returns-then-takes-clause-err : goal.returns-then-takes-clause-err
returns-then-takes-clause-err c =
    let line = c.args.self.now.line in
    let rest = c.takes.new.self.fields in
    let first : fields_of c.args.text.now ≡ codes "end" ∷ rest = sym (ap (λ (l : Line). l.fields) c.of-fields.ensures) ∙ c.takes.ensures.taken c.if-takes.true in
    let number : c.takes.new.self.number ≡ line = c.takes.ensures.line ∙ ap (λ (l : Line). l.number) c.of-fields.ensures in
    let end = ap (end_line_at line) first ∙ end_is line rest c.take_end.result (c.take_end.ensures.end ∙ ap (λ (k : ℕ). (end_at k rest).0) number) in
    end_err c.args.self.now c.take_end.new.self c.args.text.now rest c.requires.stage first c.take_end.result end

pub returns-in_err-take_entry-clause-err : goal.returns-in_err-take_entry-clause-err
returns-in_err-take_entry-clause-err c =
    let e = c.in_err-take_entry.field-0.0 in
    let text = c.args.text.now in
    if_err c.from_residual.result e (λ (x : Refusal). x ≢ OutOfMemory → RefusesLine c.args.self.now text x) c.from_residual.ensures.1
    (λ ne. next_err c.args.self.now text c.takes.new.self.number c.takes.new.self.fields (c.takes.ensures.line ∙ ap (λ (l : Line). l.number) c.of-fields.ensures)
    (c.takes.ensures.left c.if-takes.false ∙ ap (λ (l : Line). l.fields) c.of-fields.ensures) c.requires.stage
    (goes text (λ x xs h. c.takes.ensures.other c.if-takes.false x xs (ap (λ (l : Line). l.fields) c.of-fields.ensures ∙ h))) e (c.in_err-take_entry.ensures.err ne))

pub returns-clause-ok : goal.returns-clause-ok
returns-clause-ok c =
    let text = c.args.text.now in
    next_ok c.args.self.now text c.takes.new.self.number c.takes.new.self.fields (c.takes.ensures.line ∙ ap (λ (l : Line). l.number) c.of-fields.ensures)
    (c.takes.ensures.left c.if-takes.false ∙ ap (λ (l : Line). l.fields) c.of-fields.ensures) c.requires.stage
    (goes text (λ x xs h. c.takes.ensures.other c.if-takes.false x xs (ap (λ (l : Line). l.fields) c.of-fields.ensures ∙ h)))
    c.take_entry.new.self _ (c.next_line-self.ensures ∙ ap next_number c.in_ok-take_entry.ensures.line) (c.in_ok-take_entry.ensures.stage ∙ c.requires.stage)
    (record { ring = refl; writers = refl; started = refl; entries = refl }) c.in_ok-take_entry.ensures.ok

pub returns-clause-counted : goal.returns-clause-counted
returns-clause-counted c = λ taken k. (let d = c.in_ok-take_entry.ensures.counted taken k in record { same = d.same; few = d.few })
