use Rattle.texts.proofs.Wholes.{reads-found}
use Rattle.plan_cert.specs.Reading.{cert_at}
use Rattle.plan_cert.specs.Valid.{IsCert, Suits}
use Rattle.plan_cert.proofs.CertLaws.{section-found}
use Rattle.plan_cert.proofs.reading.read_cert_section.Goals as goal

pub returns-clause-found : goal.returns-clause-found
returns-clause-found c = reads-found c.read_parts.result c.read_parts.new.lines (cert_at c.args.ring.now c.args.lines.now) (λ v. IsCert v × Suits c.args.ring.now v) c.read_parts.ensures.read (section-found c.args.ring.now c.args.lines.now c.n-slots.ensures.valid)
