use Rattle.std.proofs.Common.{ℕ, ◌<◌, ◌≤◌, get_or}
use Rattle.ring_clock.specs.declared.entry.Entry.{Entry}
use Rattle.ring_clock.specs.Clock.{counter}
use Rattle.ring_clock.proofs.full.Full.is_above.Given as goal

-- the entries passed are at most the writers' counters
abbrev pub invariant-loop-entry : goal.invariant-loop-entry
invariant-loop-entry l = (i : ℕ) (e : Entry) → i < l.entry-index → (get_or l.entries i e).counter ≤ counter l.self (get_or l.entries i e).writer.0
