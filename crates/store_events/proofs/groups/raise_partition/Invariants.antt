use Rattle.ring_hints.specs.Hints.{hinted_at}
use Rattle.store_events.specs.Groups.{RaisesGroups}
use Rattle.store_events.proofs.GroupsRaised.{in_row}
use Rattle.store_events.proofs.groups.raise_partition.Given as goal

abbrev pub invariant-indexes : goal.invariant-indexes
invariant-indexes l = RaisesGroups (hinted_at l.hints) l.node.0 (in_row l.partition l.index) l.initial.slots l.slots
