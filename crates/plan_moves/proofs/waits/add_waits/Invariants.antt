use Rattle.std.proofs.Common.{◌≡◌, ℕ, take}
use Rattle.std.specs.Prelude.{◌||◌, ◌&&◌, not}
use Rattle.ring_names.specs.Lists.{has}
use Rattle.plan_moves.proofs.waits.add_waits.Given as goal

abbrev pub invariant-loop-number : goal.invariant-loop-number
invariant-loop-number l = (n : ℕ) → has n l.found.keys ≡ (has n l.fn.found.keys || (has n (take l.number-index l.after) && not (has n l.own)))
