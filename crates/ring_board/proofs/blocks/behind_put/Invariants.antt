use Rattle.std.proofs.Common.{◌≡◌, length}
use Rattle.ring_board.specs.Kinds.{sends}
use Rattle.ring_board.specs.Behind.{behind}
use Rattle.ring_board.proofs.blocks.behind_put.Given as goal

abbrev pub invariant-receipts : goal.invariant-receipts
invariant-receipts l = behind (λ r. sends l.put r.event) l.rest ≡ behind (λ r. sends l.put r.event) l.fn.list

abbrev pub decreases-receipts : goal.decreases-receipts
decreases-receipts l = length l.rest
