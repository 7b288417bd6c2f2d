-- The slots below the index are empty, and the others are not.
use Rattle.std.proofs.Common.{◌≡◌, ℕ, ◌<◌, ◌≤◌, true, false, get_or}
use Rattle.std.specs.Slots.{slots_filled, slots_len}
use Rattle.ring_board.proofs.close.free.Given as goal

abbrev pub invariant-loop-slot : goal.invariant-loop-slot
invariant-loop-slot l =
    (slots_len l.closed.slots ≡ slots_len l.initial.closed.slots)
    × ((k : ℕ) → l.slot ≤ k → k < slots_len l.closed.slots → get_or (slots_filled l.closed.slots) k false ≡ true)
    × ((k : ℕ) → k < l.slot → get_or (slots_filled l.closed.slots) k false ≡ false)
