use Rattle.std.proofs.Common.{length}
use Rattle.store_parts.specs.GetsMeet.{found_at}
use Rattle.store_clients.specs.Clocks.{IsFoundClock}
use Rattle.store_clients.proofs.ClocksRaised.{RaisedBut}
use Rattle.store_clients.proofs.clocks.raise_to_gets.Given as goal

abbrev pub invariant-gets : goal.invariant-gets
invariant-gets l = RaisedBut l.initial.clock (IsFoundClock (found_at l.gets) l.seen) (IsFoundClock (found_at l.gets) l.rest) l.clock

abbrev pub decreases-gets : goal.decreases-gets
decreases-gets l = length l.rest
