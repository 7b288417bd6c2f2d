use Rattle.std.proofs.Common.{◌≡◌, ℕ, ◌<◌, ◌≤◌, get_or}
use Rattle.std.specs.Prelude.{max}
use Rattle.ring_clock.proofs.full.raise_to.Given as goal

-- the places passed are raised, and those left are as they were
pub record Raised (l : goal.Live-loop-place) : Type 0 where
  pub passed : (k : ℕ) → k < l.place → get_or l.counters k 0 ≡ max (get_or l.initial.counters k 0) (get_or l.others k 0)
  pub left : (k : ℕ) → l.place ≤ k → get_or l.counters k 0 ≡ get_or l.initial.counters k 0

abbrev pub invariant-loop-place : goal.invariant-loop-place
invariant-loop-place l = Raised l
