use Rattle.std.proofs.Common.{length}
use Rattle.std.specs.Prelude.{◌↔◌}
use Rattle.ring_board.specs.Blocks.{AreBlocks, IsClient}
use Rattle.ring_board.proofs.clients.is_client.Given as goal

abbrev pub invariant-lines : goal.invariant-lines
invariant-lines l = AreBlocks l.asked.items l.lines l.rest ↔ IsClient l.fn.script l.fn.list

abbrev pub decreases-lines : goal.decreases-lines
decreases-lines l = length l.lines
