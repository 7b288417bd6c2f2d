use Rattle.std.proofs.Common.{◌≡◌, subst}
use Rattle.texts.specs.Judging.{Gives}
use Rattle.texts.proofs.Wholes.{gives-found}
use Rattle.change_text.specs.Reading.{change_reading}
use Rattle.change_text.specs.Spelling.{change_text}
use Rattle.change_text.specs.Valid.{IsChange}
use Rattle.change_text.proofs.ChangeLaws.{read-found, read-only}
use Rattle.change_text.proofs.reading.read_change.Goals as goal

pub returns-clause-found : goal.returns-clause-found
returns-clause-found c = gives-found c.read_whole.result (change_reading c.args.ring.now c.args.text.now) (λ v. IsChange c.args.ring.now v × (c.args.text.now ≡ change_text c.args.ring.now v)) c.read_whole.ensures.exact
    (λ v e. read-found c.args.ring.now c.args.text.now v c.n-slots.ensures.valid e)

pub returns-clause-only : goal.returns-clause-only
returns-clause-only c = λ v is e. subst (Gives c.read_whole.result) (read-only c.args.ring.now c.args.text.now v c.n-slots.ensures.valid is e) c.read_whole.ensures.exact
