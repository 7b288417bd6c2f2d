use Rattle.std.proofs.Common.{◌≡◌, ◌↔◌, ◌+◌, ◌<◌, ◌||◌, ℕ, length, vec_len, slice_index_or, false}
use Rattle.std.specs.List.{list_any}
use Rattle.ring_board.specs.Finishing.{AreAllBy, has_end}
use Rattle.ring_board.proofs.finishing.are_finishers.Given as goal

abbrev pub invariant-lists : goal.invariant-lists
invariant-lists l =
    (vec_len l.marks ≡ length l.finishers)
    × (l.place + length l.rest ≡ length l.fn.lists)
    × (AreAllBy l.finishers l.front l.workers l.place l.rest ↔ AreAllBy l.finishers l.front l.workers 0 l.fn.lists)
    × ((k : ℕ) → k < length l.finishers → (slice_index_or l.marks.items k false || list_any (has_end k) l.rest) ≡ list_any (has_end k) l.fn.lists)

abbrev pub decreases-lists : goal.decreases-lists
decreases-lists l = length l.rest
