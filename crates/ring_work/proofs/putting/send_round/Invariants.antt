use Rattle.std.proofs.Common.{◌≡◌}
use Rattle.ring_board.specs.Kinds.{sends}
use Rattle.ring_work.specs.Noted.{Grows, IsCounted}
use Rattle.ring_work.proofs.putting.send_round.Given as goal

abbrev pub invariant-loop-index : goal.invariant-loop-index
invariant-loop-index g l = record {
  grows : Grows (λ r. sends l.put r.event) l.fn.receipts.items l.receipts.items;
  count : IsCounted l.fn.share.count l.share.count l.fn.receipts.items l.receipts.items;
  parts : l.share.token.parts ≡ l.fn.share.token.parts;
}
