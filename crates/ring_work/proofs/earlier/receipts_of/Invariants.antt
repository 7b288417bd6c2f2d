use Rattle.std.proofs.Common.{◌≡◌, ◌+◌, ◌++◌, length}
use Rattle.ring_work.specs.Resumed.{receipts_from}
use Rattle.ring_work.proofs.earlier.receipts_of.Given as goal

abbrev pub invariant-entries : goal.invariant-entries
invariant-entries l =
    (l.place + length l.rest ≡ length l.fn.entries)
    × (l.receipts.items ++ receipts_from l.place l.rest ≡ receipts_from 0 l.fn.entries)

abbrev pub decreases-entries : goal.decreases-entries
decreases-entries l = length l.rest
