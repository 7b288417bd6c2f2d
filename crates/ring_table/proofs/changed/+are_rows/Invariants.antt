use Rattle.std.proofs.Common.{length}
use Rattle.ring_table.proofs.changed.+are_rows.Given as goal

abbrev pub decreases-are_rows : goal.decreases-are_rows
decreases-are_rows l = length l.rows.now
