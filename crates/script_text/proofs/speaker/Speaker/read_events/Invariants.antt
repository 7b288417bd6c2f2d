use Rattle.std.proofs.Common.{◌≡◌, ◌-◌, ◌≤◌, [], length}
use Rattle.script_text.specs.Reading.{events_from}
use Rattle.script_text.proofs.speaker.Speaker.read_events.Given as goal

abbrev pub invariant-events : goal.invariant-events
invariant-events l = record {
  rest : events_from l.self l.ring l.script l.writers l.lines.line l.lines.lines ≡ events_from l.fn.self l.ring [] l.fn.writers l.fn.lines.line l.fn.lines.lines;
  forward : l.fn.lines.line ≤ l.lines.line;
  few : length l.script ≤ 1000000;
}

abbrev pub decreases-events : goal.decreases-events
decreases-events l = 1000000 - length l.script
