use Rattle.std.proofs.Common.{◌↔◌, length}
use Rattle.history_text.specs.Known.{AreKnownEntries}
use Rattle.history_text.proofs.known.are_known.Given as goal

abbrev pub invariant-entries : goal.invariant-entries
invariant-entries l = AreKnownEntries l.ring l.writers l.rest ↔ AreKnownEntries l.ring l.writers l.fn.history

abbrev pub decreases-entries : goal.decreases-entries
decreases-entries l = length l.rest
