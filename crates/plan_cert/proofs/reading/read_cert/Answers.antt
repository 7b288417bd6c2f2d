use Rattle.std.proofs.Common.{◌≡◌, subst}
use Rattle.texts.specs.Judging.{Gives}
use Rattle.texts.proofs.Wholes.{gives-found}
use Rattle.plan_cert.specs.Reading.{cert_reading}
use Rattle.plan_cert.specs.Spelling.{cert_text}
use Rattle.plan_cert.specs.Valid.{IsCert, Suits}
use Rattle.plan_cert.proofs.CertLaws.{read-found, read-only}
use Rattle.plan_cert.proofs.reading.read_cert.Goals as goal

pub returns-clause-found : goal.returns-clause-found
returns-clause-found c = gives-found c.read_whole.result (cert_reading c.args.ring.now c.args.text.now) (λ v. IsCert v × Suits c.args.ring.now v × (c.args.text.now ≡ cert_text c.args.ring.now v)) c.read_whole.ensures.exact
    (λ v e. read-found c.args.ring.now c.args.text.now v c.n-slots.ensures.valid e)

pub returns-clause-only : goal.returns-clause-only
returns-clause-only c = λ v is suits e. subst (Gives c.read_whole.result) (read-only c.args.ring.now c.args.text.now v c.n-slots.ensures.valid is suits e) c.read_whole.ensures.exact
