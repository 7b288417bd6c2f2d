use Rattle.std.proofs.Common.{◌≡◌, ◌++◌, length}
use Rattle.ring_versions.specs.Chunks.{all_of}
use Rattle.ring_versions.proofs.walk.Walk.next.Given as goal

-- what is left stays the same
abbrev pub invariant-chunks : goal.invariant-chunks
invariant-chunks l = l.self-inside.rest.now ++ all_of l.self-inside.chunks.now ≡ l.initial.self-inside.rest.now ++ all_of l.initial.self-inside.chunks.now

abbrev pub decreases-chunks : goal.decreases-chunks
decreases-chunks l = length l.self-inside.chunks.now
