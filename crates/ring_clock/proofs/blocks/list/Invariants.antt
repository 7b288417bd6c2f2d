use Rattle.std.proofs.Common.{◌≡◌, ◌++◌, drop}
use Rattle.ring_clock.specs.Blocks.{entries_of}
use Rattle.ring_clock.proofs.blocks.list.Given as goal

-- the entries added and those of the blocks left are all
abbrev pub invariant-loop-block : goal.invariant-loop-block
invariant-loop-block l = l.out.items ++ entries_of (drop l.block-index l.blocks) ≡ entries_of l.blocks
