use Rattle.std.proofs.Common.{◌≡◌, ◌∷◌, map, length}
use Rattle.texts.specs.Numbers.{ascending}
use Rattle.ring_board.specs.Interleaving.{rises}
use Rattle.ring_board.proofs.interleaving.are_rising.Given as goal

abbrev pub invariant-receipts : goal.invariant-receipts
invariant-receipts l = ascending (l.last ∷ map (λ r. r.index) l.rest) ≡ rises l.fn.list

abbrev pub decreases-receipts : goal.decreases-receipts
decreases-receipts l = length l.rest
