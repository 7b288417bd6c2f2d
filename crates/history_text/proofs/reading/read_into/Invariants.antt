use Rattle.std.proofs.Common.{◌≡◌, ◌-◌, ◌≤◌, length}
use Rattle.history_text.specs.Reading.{entries_from}
use Rattle.history_text.proofs.reading.read_into.Given as goal

abbrev pub invariant-entries : goal.invariant-entries
invariant-entries l = record {
  rest : entries_from l.ring l.seen.items l.writers l.lines.line l.lines.lines ≡ entries_from l.fn.ring l.fn.seen.items l.fn.writers l.fn.lines.line l.fn.lines.lines;
  forward : l.fn.lines.line ≤ l.lines.line;
  few : length l.seen.items ≤ 1000000;
}

abbrev pub decreases-entries : goal.decreases-entries
decreases-entries l = 1000000 - length l.seen.items
