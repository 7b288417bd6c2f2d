use Rattle.std.proofs.Common.{◌≡◌, ℕ, ◌<◌, ◌+◌, ◌*◌, get_or, length}
use Rattle.std.specs.Prelude.{max}
use Rattle.std.specs.List.{All, AllByRecursion}
use Rattle.ring_clock.specs.Clock.{counter, IsClock}
use Rattle.ring_clock.specs.Groups.{group, group_in}
use Rattle.ring_clock.specs.Places.{IsLow}
use Rattle.ring_clock.proofs.full.raise_to_entries.Given as goal

-- the counters and the entries left stand for those of the beginning
pub record Raises (l : goal.Live-entries) : Type 0 where
  pub long : length l.counters ≡ 64
  pub clock : IsClock l.rest
  pub low : All IsLow l.rest
  pub all : AllByRecursion (λ e. group e.writer.0 ≡ group_in l.entries) l.rest
  pub counters : (k : ℕ) → k < 64 → max (get_or l.counters k 0) (counter l.rest (64 * group_in l.entries + k)) ≡ max (get_or l.initial.counters k 0) (counter l.entries (64 * group_in l.entries + k))

abbrev pub invariant-entries : goal.invariant-entries
invariant-entries l = Raises l

abbrev pub decreases-entries : goal.decreases-entries
decreases-entries l = length l.rest
