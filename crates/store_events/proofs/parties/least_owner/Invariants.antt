use Rattle.std.proofs.Common.{◌≡◌, drop, map}
use Rattle.plan_runs.specs.World.{slot_at}
use Rattle.store_parts.specs.Nodes.{is_up_at}
use Rattle.store_events.specs.Parties.{owner_kept, least_down}
use Rattle.store_events.proofs.parties.least_owner.Given as goal

abbrev pub invariant-loop-k : goal.invariant-loop-k
invariant-loop-k l = l.least ≡ least_down (is_up_at l.parts.nodes) (map (owner_kept l.parts.slots) (map (slot_at l.partition) (drop l.k l.from)))
