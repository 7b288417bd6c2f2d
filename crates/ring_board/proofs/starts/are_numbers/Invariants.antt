use Rattle.std.proofs.Common.{◌≡◌, length}
use Rattle.std.specs.Prelude.{◌↔◌}
use Rattle.ring_board.specs.Blocks.{numbers_of}
use Rattle.ring_board.proofs.starts.are_numbers.Given as goal

abbrev pub invariant-gets : goal.invariant-gets
invariant-gets l = (l.rest ≡ numbers_of l.asked l.gets) ↔ (l.fn.numbers ≡ numbers_of l.asked l.fn.seen)

abbrev pub decreases-gets : goal.decreases-gets
decreases-gets l = length l.gets
