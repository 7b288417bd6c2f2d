use Rattle.std.proofs.Common.{◌≡◌, ℕ, ◌+◌, ◌++◌, length}
use Rattle.std.specs.Prelude.{max}
use Rattle.ring_clock.specs.Clock.{IsClock, counter}
use Rattle.ring_clock.proofs.merge.merge_into.Given as goal

-- the entries added and those left stand for both lists
pub record Merges (l : goal.Live-entries) : Type 0 where
  pub first : IsClock (l.out.items ++ l.rest)
  pub second : IsClock (l.out.items ++ l.others)
  pub counters : (w : ℕ) → max (counter (l.out.items ++ l.rest) w) (counter (l.out.items ++ l.others) w) ≡ max (counter l.first w) (counter l.second w)

abbrev pub invariant-entries : goal.invariant-entries
invariant-entries l = Merges l

abbrev pub decreases-entries : goal.decreases-entries
decreases-entries l = length l.rest + length l.others
