use Rattle.std.proofs.Common.{length, get_or, []}
use Rattle.ring_clock.proofs.Causing.{Raised}
use Rattle.ring_clock.proofs.causes.raise_to_seen.Given as goal

abbrev pub invariant-seen : goal.invariant-seen
invariant-seen l = Raised (λ v. get_or l.clocks v []) l.seen l.rest l.clock

abbrev pub decreases-seen : goal.decreases-seen
decreases-seen l = length l.rest
