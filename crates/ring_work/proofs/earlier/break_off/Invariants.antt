use Rattle.std.proofs.Common.{◌≡◌, take}
use Rattle.ring_work.specs.Resumed.{Breaks}
use Rattle.ring_work.proofs.earlier.break_off.Given as goal

abbrev pub invariant-loop-copy : goal.invariant-loop-copy
invariant-loop-copy g l = record {
  breaks : Breaks (take l.copy-index l.copies) l.fn.receipts.items l.receipts.items;
  parts : l.share.token.parts ≡ l.fn.share.token.parts;
}
