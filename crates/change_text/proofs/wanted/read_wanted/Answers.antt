use Rattle.std.proofs.Common.{sym}
use Rattle.texts.proofs.Lates.{late-whole, four-lines}
use Rattle.texts.specs.Left.{whole_text}
use Rattle.change_text.specs.Wanted.{wanted_at}
use Rattle.change_text.proofs.wanted.read_wanted.Goals as goal
use Rattle.texts.proofs.PartLaws.{over-late}

pub returns-in_err-wanted-clause-late : goal.returns-in_err-wanted-clause-late
returns-in_err-wanted-clause-late c = late-whole 4 5 c.from_residual.result c.in_err-wanted.field-0.0 c.args.bytes.now c.of-lines.result c.read_both.new.lines wanted_at four-lines c.from_residual.ensures.1 c.of-lines.ensures c.in_err-wanted.ensures.late

pub returns-in_err-ended-clause-late : goal.returns-in_err-ended-clause-late
returns-in_err-ended-clause-late c = over-late 5 c.from_residual-in_err-ended.result c.in_err-ended.field-0.0 c.read_both.new.lines (whole_text wanted_at c.args.bytes.now) c.from_residual-in_err-ended.ensures.1 (sym c.in_err-ended.ensures)
