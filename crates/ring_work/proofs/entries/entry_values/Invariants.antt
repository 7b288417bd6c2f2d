use Rattle.std.proofs.Common.{◌≡◌, map, take}
use Rattle.serde_json.specs.View.{view}
use Rattle.ring_table.specs.Value.{names_of}
use Rattle.ring_work.specs.Report.{entry_data}
use Rattle.ring_work.proofs.entries.entry_values.Given as goal

abbrev pub invariant-loop-entry : goal.invariant-loop-entry
invariant-loop-entry l = map view l.out.items ≡ map (entry_data (names_of l.ring) l.writers) (take l.entry-index l.history)
