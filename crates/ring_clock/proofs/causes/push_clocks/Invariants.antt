use Rattle.ring_clock.specs.Built.{last_of}
use Rattle.ring_clock.proofs.Making.{Made}
use Rattle.ring_clock.proofs.causes.push_clocks.Given as goal

abbrev pub invariant-loop-place : goal.invariant-loop-place
invariant-loop-place l = Made l.causes l.out.items l.place (last_of l.last)
