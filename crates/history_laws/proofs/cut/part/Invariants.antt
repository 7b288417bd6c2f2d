use Rattle.std.proofs.Common.{◌≡◌}
use Rattle.history_laws.specs.Parts.{or_none, is_marked}
use Rattle.history_laws.proofs.Cutting.{Cuts}
use Rattle.history_laws.proofs.cut.part.Given as goal

abbrev pub invariant-entries : goal.invariant-entries
invariant-entries l = (l.cut.ring ≡ l.fn.ring) × (l.cut.partitions ≡ l.fn.partitions)
    × Cuts l.fn.ring (or_none l.fn.ring (is_marked l.fn.partitions)) l.fn.entries l.part.items l.cut.puts l.cut.gets l.entry-index
