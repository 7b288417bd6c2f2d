use Rattle.std.proofs.Common.{◌≡◌, ◌+◌, ◌≤◌, length}
use Rattle.std.specs.Vec.{vec_len, vec_capacity}
use Rattle.ring_exec.specs.Rows.{AddsRow}
use Rattle.ring_exec.proofs.ledgered.Ledgered.apply_row.Given as goal

abbrev pub invariant-loop-event : goal.invariant-loop-event
invariant-loop-event g l = record {
  row : AddsRow l.events l.fn.receipts.items l.receipts.items;
  len : vec_len l.receipts ≡ vec_len l.fn.receipts + l.event-index;
  room : vec_len l.fn.receipts + length l.events ≤ vec_capacity l.receipts;
  count : l.share.count + vec_len l.fn.receipts ≡ l.fn.share.count + vec_len l.receipts;
  parts : l.share.token.parts ≡ l.fn.share.token.parts;
}
