use Rattle.std.proofs.Common.{◌≡◌, ◌++◌, length}
use Rattle.ring_clock.specs.Blocks.{entries_of}
use Rattle.ring_clock.proofs.walk.Walk.next.Given as goal

-- what is left stays the same
abbrev pub invariant-groups : goal.invariant-groups
invariant-groups l = l.self-inside.part ++ entries_of l.self-inside.blocks.now ≡ l.initial.self-inside.part ++ entries_of l.initial.self-inside.blocks.now

abbrev pub decreases-groups : goal.decreases-groups
decreases-groups l = length l.self-inside.blocks.now
