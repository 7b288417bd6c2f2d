use Rattle.ring_hints.specs.Hints.{hinted_at}
use Rattle.store_events.specs.Groups.{RaisesGroups}
use Rattle.store_events.proofs.GroupsRaised.{in_rows}
use Rattle.store_events.proofs.groups.raise_groups.Given as goal

abbrev pub invariant-partitions : goal.invariant-partitions
invariant-partitions l = RaisesGroups (hinted_at l.hints) l.node.0 (in_rows l.partition l.n) l.initial.slots l.slots
