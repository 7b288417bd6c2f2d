use Rattle.std.proofs.Common.{◌+◌, ◌<◌, ℕ, [], slice_index_or}
use Rattle.ring_board.specs.Blocks.{IsClient}
use Rattle.ring_board.specs.Finishing.{list_at}
use Rattle.ring_board.proofs.agreeing.are_clients.Given as goal

abbrev pub invariant-loop-place : goal.invariant-loop-place
invariant-loop-place l = (i : ℕ) → i < l.place → IsClient (slice_index_or l.scripts i []) (list_at l.lists (l.first + i))
