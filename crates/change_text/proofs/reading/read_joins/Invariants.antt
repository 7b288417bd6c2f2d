use Rattle.std.proofs.Common.{◌≡◌, ◌≤◌, [], length}
use Rattle.change_text.specs.Reading.{joins_from}
use Rattle.change_text.proofs.reading.read_joins.Given as goal

abbrev pub invariant-joins : goal.invariant-joins
invariant-joins l = record {
  rest : joins_from l.ring l.draft.joins l.lines ≡ joins_from l.fn.ring l.fn.draft.joins l.fn.lines;
  forward : l.fn.lines.line ≤ l.lines.line;
  no_leaves : l.draft.leaves ≡ [];
}

abbrev pub decreases-joins : goal.decreases-joins
decreases-joins l = length l.lines.lines
