use Rattle.std.proofs.Common.{sym}
use Rattle.texts.proofs.Lates.{late-whole, four-lines}
use Rattle.texts.specs.Left.{whole_text}
use Rattle.ring_script.specs.Bundles.{bundle_at}
use Rattle.texts.proofs.PartLaws.{over-late}
use Rattle.ring_script.proofs.bundle.read_bundle.Goals as goal

pub returns-in_err-bundle-clause-late : goal.returns-in_err-bundle-clause-late
returns-in_err-bundle-clause-late c = late-whole 4 5 c.from_residual.result c.in_err-bundle.field-0.0 c.args.bytes.now c.of-lines.result c.read_parts.new.lines (bundle_at c.args.kind) four-lines c.from_residual.ensures.1 c.of-lines.ensures c.in_err-bundle.ensures.late

pub returns-in_err-ended-clause-late : goal.returns-in_err-ended-clause-late
returns-in_err-ended-clause-late c = over-late 5 c.from_residual-in_err-ended.result c.in_err-ended.field-0.0 c.read_parts.new.lines (whole_text (bundle_at c.args.kind) c.args.bytes.now) c.from_residual-in_err-ended.ensures.1 (sym c.in_err-ended.ensures)
