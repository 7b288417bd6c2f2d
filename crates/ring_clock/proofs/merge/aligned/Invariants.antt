use Rattle.std.proofs.Common.{◌↔◌, drop}
use Rattle.ring_clock.specs.Clock.{IsAtMost}
use Rattle.ring_clock.proofs.merge.aligned.Given as goal

-- the entries left decide
abbrev pub invariant-loop-place : goal.invariant-loop-place
invariant-loop-place l = IsAtMost (drop l.place l.first) (drop l.place l.second) ↔ IsAtMost l.first l.second
