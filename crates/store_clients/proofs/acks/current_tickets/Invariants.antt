use Rattle.std.proofs.Common.{◌≡◌, length}
use Rattle.plan_runs.specs.World.{passing_below}
use Rattle.store_clients.specs.Acks.{is_current_in}
use Rattle.store_clients.proofs.acks.current_tickets.Given as goal

abbrev pub invariant-loop-index : goal.invariant-loop-index
invariant-loop-index l = length (passing_below l.index (is_current_in l.slots l.put l.partition)) ≡ l.current
