-- The words so far are those of the steps so far.
use Rattle.std.proofs.Common.{◌≡◌, ℕ, ◌+◌, ◌<◌, get_or, vec_len}
use Rattle.std.specs.Slots.{slots_items}
use Rattle.ring_board.proofs.close.step_words.Given as goal

abbrev pub invariant-loop-step : goal.invariant-loop-step
invariant-loop-step l =
    (vec_len l.words ≡ l.step) × ((k : ℕ) → k < l.step → get_or l.words.items k 0 ≡ get_or (slots_items l.closed.words) (k + 1) 0)
