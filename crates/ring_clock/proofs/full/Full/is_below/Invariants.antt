use Rattle.std.proofs.Common.{ℕ, ◌+◌, ◌<◌, ◌≤◌, get_or}
use Rattle.ring_clock.specs.Clock.{counter}
use Rattle.ring_clock.proofs.full.Full.is_below.Given as goal

-- the counters passed are at most their writers' among the entries
abbrev pub invariant-loop-place : goal.invariant-loop-place
invariant-loop-place l = (k : ℕ) → k < l.place → get_or l.self-inside.counters k 0 ≤ counter l.entries (l.first + k)
