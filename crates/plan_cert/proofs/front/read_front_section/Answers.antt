use Rattle.std.proofs.Common.{arith}
use Rattle.ring_table.specs.Reading.{ring_at}
use Rattle.plan_cert.specs.Front.{claims_at, front_of, front_at}
use Rattle.plan_cert.proofs.FrontRead.{claims-on, past-claims}
use Rattle.texts.proofs.PartLaws.{late-first, late-second, on-after}
use Rattle.plan_cert.proofs.front.read_front_section.Goals as goal

pub returns-in_err-ring-clause-late : goal.returns-in_err-ring-clause-late
unfolding front_at
returns-in_err-ring-clause-late c = late-first front_of ring_at claims_at 4 c.from_residual.result c.in_err-ring.field-0.0 c.args.lines.now c.read_ring_section.new.lines c.from_residual.ensures.1 claims-on c.in_err-ring.ensures.late

pub returns-in_err-claims-clause-late : goal.returns-in_err-claims-clause-late
unfolding front_at
returns-in_err-claims-clause-late c =
    let far = c.in_ok-ring.ensures.far in
    let on = on-after 2 c.read_ring_section.new.lines.line in
    late-second front_of ring_at claims_at 4 2 c.from_residual-in_err-claims.result c.in_err-claims.field-0.0 c.args.lines.now c.read_ring_section.new.lines c.read_claims.new.lines c.in_ok-ring.ring
    c.from_residual-in_err-claims.ensures.1 c.in_ok-ring.ensures.read (omega arith) c.in_err-claims.ensures.late

pub returns-clause-far : goal.returns-clause-far
returns-clause-far c =
    let far = c.in_ok-ring.ensures.far in
    let past = past-claims c.in_ok-ring.ring c.read_ring_section.new.lines c.read_claims.new.lines c.in_ok-claims.claims c.in_ok-claims.ensures.read in
    omega arith
