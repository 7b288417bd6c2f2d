use Rattle.std.proofs.Common.{◌≡◌, ◌<◌, ℕ, false, length, vec_len, slice_index_or}
use Rattle.ring_work.specs.Resumed.{is_open}
use Rattle.ring_work.proofs.earlier.flags_of.Given as goal

abbrev pub invariant-entries : goal.invariant-entries
invariant-entries l =
    (vec_len l.flags ≡ l.fn.steps)
    × ((n : ℕ) → n < l.fn.steps → is_open n l.rest (slice_index_or l.flags.items n false) ≡ is_open n l.fn.entries false)

abbrev pub decreases-entries : goal.decreases-entries
decreases-entries l = length l.rest
