use Rattle.std.proofs.Common.{◌≡◌, ◌≤◌}
use Rattle.ring_work.specs.Drives.{scripts_from}
use Rattle.ring_work.proofs.scripts.read_more.Given as goal

abbrev pub invariant-scripts : goal.invariant-scripts
invariant-scripts l = record {
  rest : scripts_from l.left l.ring (l.scripts.items, l.writers) l.lines ≡ scripts_from 7 l.fn.ring (l.fn.scripts.items, l.fn.writers) l.fn.lines;
  forward : l.fn.lines.line ≤ l.lines.line;
}

abbrev pub decreases-scripts : goal.decreases-scripts
decreases-scripts l = l.left
