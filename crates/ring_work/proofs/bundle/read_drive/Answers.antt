use Rattle.texts.proofs.Lates.{late-whole, four-lines}
use Rattle.ring_work.specs.Drives.{drive_at}
use Rattle.ring_work.proofs.bundle.read_drive.Goals as goal

pub returns-in_err-bundle-clause-late : goal.returns-in_err-bundle-clause-late
returns-in_err-bundle-clause-late c = late-whole 4 5 c.from_residual.result c.in_err-bundle.field-0.0 c.args.bytes.now c.of-lines.result c.read_parts.new.lines drive_at four-lines c.from_residual.ensures.1 c.of-lines.ensures c.in_err-bundle.ensures.late
