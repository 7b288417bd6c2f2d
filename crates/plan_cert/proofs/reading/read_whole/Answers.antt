use Rattle.std.proofs.Common.{rules}
use Rattle.texts.proofs.Lates.{late-whole, two-lines}
use Rattle.plan_cert.specs.Reading.{cert_at}
use Rattle.plan_cert.proofs.reading.read_whole.Goals as goal

pub returns-in_err-cert-clause-late : goal.returns-in_err-cert-clause-late
returns-in_err-cert-clause-late c = late-whole 2 3 c.from_residual.result c.in_err-cert.field-0.0 c.args.text.now c.of-lines.result c.read_cert_section.new.lines (cert_at c.args.ring.now) two-lines c.from_residual.ensures.1 c.of-lines.ensures c.in_err-cert.ensures.late

pub returns-clause-exact : goal.returns-clause-exact
returns-clause-exact c = search rules
