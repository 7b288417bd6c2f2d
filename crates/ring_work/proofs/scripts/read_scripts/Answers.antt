use Rattle.std.proofs.Common.{[], arith}
use Rattle.texts.proofs.Lates.{late-part}
use Rattle.ring_work.specs.Drives.{Scripts, scripts_at}
use Rattle.ring_work.proofs.ScriptsRead.{in-first, in-more, next-past, clients-of}
use Rattle.ring_work.proofs.scripts.read_scripts.Goals as goal

pub returns-in_err-read_next-clause-late : goal.returns-in_err-read_next-clause-late
returns-in_err-read_next-clause-late c =
    let late = rw (c.new-scripts.ensures.items, c.requires) at c.in_err-read_next.ensures.late in
    late-part 0 c.from_residual.result c.in_err-read_next.field-0.0 c.args.lines.now c.read_next.new.lines (scripts_at c.args.ring.now c.args.lines.now) c.from_residual.ensures.1 late
    (λ p. (p.0, in-first c.args.ring.now c.read_next.new.lines.line c.args.lines.now p.1))

pub returns-in_err-read_more-clause-late : goal.returns-in_err-read_more-clause-late
returns-in_err-read_more-clause-late c =
    let none : Scripts = ([], []) in
    let first : Scripts = (c.read_next.new.scripts.items, c.read_next.new.writers) in
    let read = rw (c.new-scripts.ensures.items, c.requires) at c.in_ok-read_next.ensures.read in
    let on = next-past c.args.ring.now none first c.args.lines.now c.read_next.new.lines read in
    late-part 0 c.from_residual-in_err-read_more.result c.in_err-read_more.field-0.0 c.args.lines.now c.read_more.new.lines (scripts_at c.args.ring.now c.args.lines.now) c.from_residual-in_err-read_more.ensures.1 c.in_err-read_more.ensures.late
    (λ p. (omega (arith, p.0), in-more c.args.ring.now c.read_more.new.lines.line c.args.lines.now c.read_next.new.lines first read p.1))

pub returns-clause-clients : goal.returns-clause-clients
returns-clause-clients c =
    let first : Scripts = (c.read_next.new.scripts.items, c.read_next.new.writers) in
    let all : Scripts = (c.read_more.new.scripts.items, c.read_more.new.writers) in
    let read = rw (c.new-scripts.ensures.items, c.requires) at c.in_ok-read_next.ensures.read in
    rw c.from_vec.ensures (clients-of c.args.ring.now c.args.lines.now c.read_next.new.lines c.read_more.new.lines first all read c.in_ok-read_more.ensures.read)
