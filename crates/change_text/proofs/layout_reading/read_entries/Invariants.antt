use Rattle.std.proofs.Common.{◌≡◌, length}
use Rattle.change_text.specs.LayoutReading.{entries_from}
use Rattle.change_text.proofs.layout_reading.read_entries.Given as goal

abbrev pub invariant-lines : goal.invariant-lines
invariant-lines l = entries_from l.draft l.lines.line l.lines.lines ≡ entries_from l.fn.draft l.fn.lines.line l.fn.lines.lines

abbrev pub decreases-lines : goal.decreases-lines
decreases-lines l = length l.lines.lines
