use Rattle.std.proofs.Common.{◌≡◌, ◌+◌, ◌*◌, ◌++◌, drop}
use Rattle.ring_clock.specs.Places.{entries_from}
use Rattle.ring_clock.proofs.full.Full.push_to.Given as goal

-- the entries added and those of the places left are all
abbrev pub invariant-loop-place : goal.invariant-loop-place
invariant-loop-place l = l.out.items ++ entries_from (64 * l.self-inside.group + l.place) (drop l.place l.self-inside.counters) ≡ l.initial.out.items ++ entries_from (64 * l.self-inside.group) l.self-inside.counters
