use Rattle.std.proofs.Common.{◌≡◌, ◌++◌, map, take}
use Rattle.texts.specs.Parts.{text_of}
use Rattle.ring_table.specs.Value.{names_of}
use Rattle.script_text.specs.Spelling.{event_fields}
use Rattle.script_text.proofs.writing.push_lines.Given as goal

abbrev pub invariant-loop-event : goal.invariant-loop-event
invariant-loop-event l = l.out.items ≡ l.fn.out.items ++ text_of (map (event_fields (names_of l.ring) l.names) (take l.event-index l.events))
