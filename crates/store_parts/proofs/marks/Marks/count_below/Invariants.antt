use Rattle.std.proofs.Common.{◌≡◌, length}
use Rattle.plan_runs.specs.World.{passing_below}
use Rattle.store_parts.specs.Marks.{has_mark}
use Rattle.store_parts.proofs.marks.Marks.count_below.Given as goal

abbrev pub invariant-loop-number : goal.invariant-loop-number
invariant-loop-number l = length (passing_below l.number (has_mark l.self)) ≡ l.count
