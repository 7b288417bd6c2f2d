use Rattle.std.proofs.Common.{sym, ◌∙◌, arith}
use Rattle.texts.proofs.Lates.{late-part}
use Rattle.ring_work.specs.Drives.{Scripts, scripts_from}
use Rattle.ring_work.proofs.ScriptsRead.{from-step, from-fault, from-next, next-past}
use Rattle.texts.proofs.PartLaws.{handed-on}
use Rattle.ring_work.proofs.scripts.read_more.Goals as goal

pub returns-in_err-read_next-clause-read : goal.returns-in_err-read_next-clause-read
returns-in_err-read_next-clause-read c =
    let old : Scripts = (c.args.scripts.now.items, c.args.writers.now) in
    let seen : Scripts = (c.scripts.scripts.items, c.scripts.writers) in
    let some = c.scripts-test.true in
    let over = sym c.is_over.ensures ∙ c.if-is_over.false in
    handed-on c.from_residual.result c.in_err-read_next.field-0.0 _ c.read_next.new.lines (scripts_from 7 c.args.ring.now old c.args.lines.now) c.from_residual.ensures.1
    (λ other. sym c.scripts.invariant.rest ∙ from-fault c.args.ring.now c.scripts.left seen c.scripts.lines c.in_err-read_next.field-0.0 (omega arith) over (c.in_err-read_next.ensures.read other))

pub returns-in_err-read_next-clause-late : goal.returns-in_err-read_next-clause-late
returns-in_err-read_next-clause-late c =
    let old : Scripts = (c.args.scripts.now.items, c.args.writers.now) in
    let seen : Scripts = (c.scripts.scripts.items, c.scripts.writers) in
    let some = c.scripts-test.true in
    let over = sym c.is_over.ensures ∙ c.if-is_over.false in
    let forward = c.scripts.invariant.forward in
    late-part 0 c.from_residual.result c.in_err-read_next.field-0.0 c.args.lines.now c.read_next.new.lines (scripts_from 7 c.args.ring.now old c.args.lines.now) c.from_residual.ensures.1 c.in_err-read_next.ensures.late
    (λ p. (omega (arith, p.0), rw (← c.scripts.invariant.rest) (from-next c.args.ring.now c.scripts.left c.read_next.new.lines.line seen c.scripts.lines (omega arith) over p.1)))

pub scripts-preserved : goal.scripts-preserved
scripts-preserved c =
    let seen : Scripts = (c.scripts.scripts.items, c.scripts.writers) in
    let next : Scripts = (c.read_next.new.scripts.items, c.read_next.new.writers) in
    let some = c.scripts-test.true in
    let over = sym c.is_over.ensures ∙ c.if-is_over.false in
    let forward = c.scripts.invariant.forward in
    let on = next-past c.args.ring.now seen next c.scripts.lines c.read_next.new.lines c.in_ok-read_next.ensures.read in
    record {
      rest = from-step c.args.ring.now c.scripts.left seen next c.scripts.lines c.read_next.new.lines (omega arith) over c.in_ok-read_next.ensures.read ∙ c.scripts.invariant.rest;
      forward = omega arith;
    }
