use Rattle.std.proofs.Common.{◌≡◌, ◌≤◌, length}
use Rattle.change_text.specs.Reading.{leaves_from}
use Rattle.change_text.proofs.reading.read_leaves.Given as goal

abbrev pub invariant-leaves : goal.invariant-leaves
invariant-leaves l = record {
  rest : leaves_from l.ring l.fn.draft.joins l.draft.leaves l.lines ≡ leaves_from l.fn.ring l.fn.draft.joins l.fn.draft.leaves l.fn.lines;
  forward : l.fn.lines.line ≤ l.lines.line;
  same_joins : l.draft.joins ≡ l.fn.draft.joins;
}

abbrev pub decreases-leaves : goal.decreases-leaves
decreases-leaves l = length l.lines.lines
