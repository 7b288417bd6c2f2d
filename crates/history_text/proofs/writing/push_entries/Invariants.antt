use Rattle.std.proofs.Common.{◌≡◌, ◌++◌, take}
use Rattle.std.specs.List.{flat_map}
use Rattle.ring_table.specs.Value.{names_of}
use Rattle.history_text.specs.Spelling.{entry_line}
use Rattle.history_text.proofs.writing.push_entries.Given as goal

abbrev pub invariant-loop-entry : goal.invariant-loop-entry
invariant-loop-entry l = l.out.items ≡ l.fn.out.items ++ flat_map (entry_line (names_of l.ring) l.writers) (take l.entry-index l.history)
