use Rattle.std.proofs.Common.{rules}
use Rattle.texts.proofs.Lates.{late-part}
use Rattle.plan_cert.specs.Reading.{cert_at}
use Rattle.plan_cert.proofs.CertLates.{cert-facts, cert-chains, behind-facts}
use Rattle.plan_cert.proofs.reading.read_parts.Goals as goal

pub returns-in_err-read_facts-clause-late : goal.returns-in_err-read_facts-clause-late
returns-in_err-read_facts-clause-late c =
    let start = rw c.format_of.ensures at c.in_ok-header.ensures.read in
    let late = rw c.new-facts.ensures at c.in_err-read_facts.ensures.late in
    late-part 2 c.from_residual-in_err-read_facts.result c.in_err-read_facts.field-0.0 c.args.lines.now c.read_facts.new.lines (cert_at c.args.ring.now c.args.lines.now) c.from_residual-in_err-read_facts.ensures.1 late
    (λ p. (rw c.in_ok-header.ensures.line at p.0, cert-facts c.args.ring.now c.args.lines.now c.header.new.lines c.in_ok-header.field-0 start c.read_facts.new.lines.line p.1))

pub returns-in_err-read_chains-clause-late : goal.returns-in_err-read_chains-clause-late
returns-in_err-read_chains-clause-late c =
    let start = rw c.format_of.ensures at c.in_ok-header.ensures.read in
    let facts = rw c.new-facts.ensures at c.in_ok-read_facts.ensures.read in
    let late = rw c.new-chains.ensures at c.in_err-read_chains.ensures.late in
    let k = c.read_chains.new.lines.line in
    late-part 2 c.from_residual-in_err-read_chains.result c.in_err-read_chains.field-0.0 c.args.lines.now c.read_chains.new.lines (cert_at c.args.ring.now c.args.lines.now) c.from_residual-in_err-read_chains.ensures.1 late
    (λ p. (
      rw c.in_ok-header.ensures.line at (behind-facts c.args.ring.now c.args.lines.now c.header.new.lines c.in_ok-header.field-0 start k c.read_facts.new.lines c.read_facts.new.facts facts p.0),
      cert-chains c.args.ring.now c.args.lines.now c.header.new.lines c.in_ok-header.field-0 start k c.read_facts.new.lines c.read_facts.new.facts facts p.1,
    ))

pub returns-clause-read : goal.returns-clause-read
unfolding cert_at
returns-clause-read c = search rules
