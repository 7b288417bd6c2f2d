-- The bytes so far are what the reader gave after those that were there.
use Rattle.std.proofs.Common.{◌-◌, ◌≤◌, ℕ, List, Option, length}
use Rattle.std.specs.Io.KnownBytes.{Consumes}
use Rattle.history_text.proofs.input.read_head.Given as goal

abbrev pub invariant-reads : goal.invariant-reads
invariant-reads g l = record {
  few : length l.bytes.items ≤ l.fn.most;
  bytes : (start : Option (List ℕ)) → Consumes start (g.R.Read.remaining l.fn.input) l.fn.bytes.items → Consumes start (g.R.Read.remaining l.input) l.bytes.items;
}

abbrev pub decreases-reads : goal.decreases-reads
decreases-reads g l = l.fn.most - length l.bytes.items
