use Rattle.std.proofs.Common.{◌≡◌}
use Rattle.ring_board.specs.Kinds.{sends}
use Rattle.ring_work.specs.Noted.{Grows, IsCounted}
use Rattle.ring_work.proofs.putting.leave_hint.Given as goal

abbrev pub invariant-keepers : goal.invariant-keepers
invariant-keepers g l = record {
  grows : Grows (λ r. sends l.put r.event) l.fn.receipts.items l.receipts.items;
  count : IsCounted l.fn.share.count l.share.count l.fn.receipts.items l.receipts.items;
  parts : l.share.token.parts ≡ l.fn.share.token.parts;
}
