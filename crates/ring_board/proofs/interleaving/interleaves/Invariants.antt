use Rattle.std.proofs.Common.{◌≡◌, ◌↔◌, ◌+◌, ◌<◌, ℕ, min, length, vec_len, slice_index}
use Rattle.ring_board.specs.Interleaving.{AreGood, standing, Interleaves}
use Rattle.ring_board.proofs.interleaving.interleaves.Given as goal

-- the lists that are left are as good as all, and the counts are those of the lists in front
abbrev pub invariant-lists : goal.invariant-lists
invariant-lists l =
    (vec_len l.counts ≡ length l.history)
    × (Interleaves l.history l.fn.lists → AreGood l.history l.rest)
    × (AreGood l.history l.rest → AreGood l.history l.fn.lists)
    × ((k : ℕ) → k < length l.history → min 255 (slice_index l.counts.items k + standing k l.rest) ≡ min 255 (standing k l.fn.lists))

abbrev pub decreases-lists : goal.decreases-lists
decreases-lists l = length l.rest
