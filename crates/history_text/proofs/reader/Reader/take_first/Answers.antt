use Rattle.std.proofs.Common.{sym, ap, ◌∙◌, refl}
use Rattle.std.specs.Prelude.{codes}
use Rattle.texts.specs.Frames.{header_at}
use Rattle.texts.specs.Judging.{Line}
use Rattle.history_text.specs.State.{RefusesLine}
use Rattle.history_text.proofs.Takings.{if_err, refuses_first, takes_first}
use Rattle.history_text.proofs.reader.Reader.take_first.Goals as goal

pub returns-in_err-first_line-clause-err : goal.returns-in_err-first_line-clause-err
returns-in_err-first_line-clause-err c =
    if_err c.from_residual.result c.in_err-first_line.field-0.0 (RefusesLine c.args.self.now c.args.text.now) c.from_residual.ensures.1
    (refuses_first c.args.self.now c.args.text.now c.in_err-first_line.field-0.0 c.requires.stage
    (sym (c.in_err-first_line.ensures ∙ ap (λ (l : Line). header_at (codes "history") (codes "1") l.number l.fields) c.of.ensures)))

pub returns-clause-ok : goal.returns-clause-ok
returns-clause-ok c =
    takes_first c.args.self.now _ c.args.text.now c.next_line-self.ensures tt c.requires.stage refl (record { ring = refl; writers = refl; started = refl; entries = refl })
    (sym (c.in_ok-first_line.ensures ∙ ap (λ (l : Line). header_at (codes "history") (codes "1") l.number l.fields) c.of.ensures))
