use Rattle.std.proofs.Common.{◌≡◌}
use Rattle.ring_board.specs.Kinds.{reads}
use Rattle.ring_work.specs.Noted.{Grows, IsCounted}
use Rattle.ring_work.proofs.getting.read_round.Given as goal

abbrev pub invariant-loop-index : goal.invariant-loop-index
invariant-loop-index g l = record {
  grows : Grows (λ r. reads l.get r.event) l.fn.receipts.items l.receipts.items;
  count : IsCounted l.fn.share.count l.share.count l.fn.receipts.items l.receipts.items;
  parts : l.share.token.parts ≡ l.fn.share.token.parts;
}
