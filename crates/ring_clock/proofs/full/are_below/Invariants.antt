use Rattle.std.proofs.Common.{ℕ, ◌<◌, ◌≤◌, ◌↔◌, get_or}
use Rattle.ring_clock.proofs.full.are_below.Given as goal

-- the top bit is clear as long as no counter passed is the greater one
abbrev pub invariant-loop-place : goal.invariant-loop-place
invariant-loop-place l = (l.lost < 2147483648) ↔ ((k : ℕ) → k < l.place → get_or l.first k 0 ≤ get_or l.second k 0)
