use Rattle.std.proofs.Common.{◌↔◌, length}
use Rattle.ring_clock.specs.Clock.{IsClock, IsAtMost}
use Rattle.ring_clock.proofs.merge.unaligned.Given as goal

-- the entries left decide
pub record Left (l : goal.Live-entries) : Type 0 where
  pub first : IsClock l.rest
  pub second : IsClock l.others
  pub decide : IsAtMost l.rest l.others ↔ IsAtMost l.first l.second

abbrev pub invariant-entries : goal.invariant-entries
invariant-entries l = Left l

abbrev pub decreases-entries : goal.decreases-entries
decreases-entries l = length l.others
