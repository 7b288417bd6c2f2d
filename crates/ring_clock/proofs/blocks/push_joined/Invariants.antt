use Rattle.std.proofs.Common.{◌≡◌, ℕ, ◌+◌, ◌++◌, length}
use Rattle.std.specs.Prelude.{max}
use Rattle.ring_clock.specs.Clock.{counter}
use Rattle.ring_clock.specs.Blocks.{AreBlocks, entries_of}
use Rattle.ring_clock.proofs.blocks.push_joined.Given as goal

-- the blocks added and those left stand for both lists
pub record Joins (l : goal.Live-groups) : Type 0 where
  pub first : AreBlocks (l.out.items ++ l.rest)
  pub second : AreBlocks (l.out.items ++ l.others)
  pub counters : (w : ℕ) → max (counter (entries_of (l.out.items ++ l.rest)) w) (counter (entries_of (l.out.items ++ l.others)) w) ≡ max (counter (entries_of l.first) w) (counter (entries_of l.second) w)

abbrev pub invariant-groups : goal.invariant-groups
invariant-groups l = Joins l

abbrev pub decreases-groups : goal.decreases-groups
decreases-groups l = length l.rest + length l.others
