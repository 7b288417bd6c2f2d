use Rattle.std.proofs.Common.{◌≡◌, ◌==◌, ◌+◌, ◌<◌, ℕ, min, length, vec_len, slice_index, count_by}
use Rattle.ring_board.proofs.interleaving.count_in.Given as goal

abbrev pub invariant-receipts : goal.invariant-receipts
invariant-receipts l =
    (vec_len l.counts ≡ vec_len l.fn.counts)
    × ((k : ℕ) → k < vec_len l.fn.counts → min 255 (slice_index l.counts.items k + count_by (λ r. k == r.index) l.rest)
    ≡ min 255 (slice_index l.fn.counts.items k + count_by (λ r. k == r.index) l.fn.list))

abbrev pub decreases-receipts : goal.decreases-receipts
decreases-receipts l = length l.rest
