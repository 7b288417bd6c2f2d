use Rattle.std.proofs.Common.{◌≡◌, ◌↔◌, length}
use Rattle.ring_board.specs.Interleaving.{AreStanding}
use Rattle.ring_board.proofs.interleaving.all_stand.Given as goal

abbrev pub invariant-receipts : goal.invariant-receipts
invariant-receipts l = AreStanding l.history l.rest ↔ AreStanding l.history l.fn.list

abbrev pub decreases-receipts : goal.decreases-receipts
decreases-receipts l = length l.rest
