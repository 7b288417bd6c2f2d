use Rattle.std.proofs.Common.{◌≡◌, ◌+◌, ◌≤◌, length}
use Rattle.ring_clock.specs.Places.{entries_from}
use Rattle.ring_clock.proofs.part.Part.next.Given as goal

-- what is left stays the same
pub record Left (l : goal.Live-places) : Type 0 where
  pub few : length l.self-inside.few.now ≡ 0
  pub in_range : l.self-inside.first + length l.self-inside.counters.now ≤ 4294967296
  pub same : entries_from l.self-inside.first l.self-inside.counters.now ≡ entries_from l.initial.self-inside.first l.initial.self-inside.counters.now

abbrev pub invariant-places : goal.invariant-places
invariant-places l = Left l

abbrev pub decreases-places : goal.decreases-places
decreases-places l = length l.self-inside.counters.now
