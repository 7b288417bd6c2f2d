use Rattle.std.proofs.Common.{arith}
use Rattle.texts.proofs.Lates.{late-part, late-here}
use Rattle.ring_work.specs.Drives.{Scripts, next_at}
use Rattle.ring_work.proofs.ScriptsRead.{in-next, past-next}
use Rattle.ring_work.proofs.scripts.read_next.Goals as goal
use Rattle.texts.proofs.PartLaws.{on-after}

pub returns-in_err-script-clause-late : goal.returns-in_err-script-clause-late
returns-in_err-script-clause-late c =
    let seen : Scripts = (c.args.scripts.now.items, c.args.writers.now) in
    let on = on-after 2 c.args.lines.now.line in
    late-part 0 c.from_residual.result c.in_err-script.field-0.0 c.args.lines.now c.read_client_section.new.lines (next_at c.args.ring.now seen c.args.lines.now) c.from_residual.ensures.1 c.in_err-script.ensures.late
    (λ p. (omega (arith, p.0), in-next c.args.ring.now c.read_client_section.new.lines.line seen c.args.lines.now p.1))

pub returns-in_err-push-clause-late : goal.returns-in_err-push-clause-late
returns-in_err-push-clause-late c =
    let seen : Scripts = (c.args.scripts.now.items, c.args.writers.now) in
    late-here 0 c.from_residual-in_err-push.result c.args.lines.now c.read_client_section.new.lines (next_at c.args.ring.now seen c.args.lines.now)
    (past-next c.args.ring.now seen c.args.lines.now c.read_client_section.new.lines (c.in_ok-script.script, c.read_client_section.new.writers) c.in_ok-script.ensures.read)
