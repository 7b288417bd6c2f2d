use Rattle.std.proofs.Common.{◌≡◌, ◌↔◌, ◌<◌, ◌||◌, ℕ, length, vec_len, slice_index_or, false}
use Rattle.ring_board.specs.Finishing.{AreBy, has_end}
use Rattle.ring_board.proofs.finishing.mark.Given as goal

abbrev pub invariant-receipts : goal.invariant-receipts
invariant-receipts l =
    (vec_len l.marks ≡ vec_len l.fn.marks)
    × (AreBy l.finishers l.worker l.rest ↔ AreBy l.finishers l.worker l.fn.list)
    × ((k : ℕ) → k < vec_len l.fn.marks → (slice_index_or l.marks.items k false || has_end k l.rest) ≡ (slice_index_or l.fn.marks.items k false || has_end k l.fn.list))

abbrev pub decreases-receipts : goal.decreases-receipts
decreases-receipts l = length l.rest
