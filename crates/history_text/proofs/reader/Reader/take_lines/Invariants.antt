use Rattle.std.proofs.Common.{ℕ, ◌-◌, ◌≤◌, length, take}
use Rattle.history_text.specs.State.{Counted, Takes, lines_and}
use Rattle.history_text.proofs.reader.Reader.take_lines.Given as goal

abbrev pub invariant-lines : goal.invariant-lines
invariant-lines l = record {
  counted : (taken : ℕ) → Counted taken l.fn.self → Counted taken l.self;
  within : l.taken ≤ length l.fn.bytes;
  takes : Takes l.fn.self l.self (lines_and (take l.taken l.fn.bytes));
}

abbrev pub decreases-lines : goal.decreases-lines
decreases-lines l = length l.fn.bytes - l.taken
