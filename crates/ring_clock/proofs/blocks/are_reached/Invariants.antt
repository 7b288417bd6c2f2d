use Rattle.std.proofs.Common.{◌↔◌, length}
use Rattle.ring_clock.specs.Groups.{IsAtMostBut}
use Rattle.ring_clock.specs.Blocks.{AreBlocks, entries_of}
use Rattle.ring_clock.proofs.blocks.are_reached.Given as goal

-- the blocks left decide
pub record Left (l : goal.Live-groups) : Type 0 where
  pub are : AreBlocks l.rest
  pub decide : IsAtMostBut l.but (entries_of l.rest) (entries_of l.second) ↔ IsAtMostBut l.but (entries_of l.first) (entries_of l.second)

abbrev pub invariant-groups : goal.invariant-groups
invariant-groups l = Left l

abbrev pub decreases-groups : goal.decreases-groups
decreases-groups l = length l.rest
