use Rattle.std.proofs.Common.{◌≡◌, ◌-◌, ◌≤◌, length}
use Rattle.plan_text.specs.Reading.{steps_from}
use Rattle.plan_text.proofs.reading.read_into.Given as goal

abbrev pub invariant-steps : goal.invariant-steps
invariant-steps l = record {
  rest : steps_from l.ring l.plan l.lines.line l.lines.lines ≡ steps_from l.fn.ring l.fn.plan l.fn.lines.line l.fn.lines.lines;
  forward : l.fn.lines.line ≤ l.lines.line;
  few : length l.plan ≤ 131072;
}

abbrev pub decreases-steps : goal.decreases-steps
decreases-steps l = 131072 - length l.plan
