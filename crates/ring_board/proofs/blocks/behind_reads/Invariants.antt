use Rattle.std.proofs.Common.{◌≡◌, length}
use Rattle.ring_board.specs.Kinds.{reads}
use Rattle.ring_board.specs.Behind.{behind}
use Rattle.ring_board.proofs.blocks.behind_reads.Given as goal

abbrev pub invariant-receipts : goal.invariant-receipts
invariant-receipts l = behind (λ r. reads l.get r.event) l.rest ≡ behind (λ r. reads l.get r.event) l.fn.list

abbrev pub decreases-receipts : goal.decreases-receipts
decreases-receipts l = length l.rest
