use Rattle.ring_hints.specs.Hints.{hinted_at}
use Rattle.store_parts.specs.Nodes.{is_up_at}
use Rattle.store_clients.proofs.SlotKeepers.{Passing}
use Rattle.store_clients.proofs.keepers.first_down.Given as goal

abbrev pub invariant-keepers : goal.invariant-keepers
invariant-keepers l = Passing (is_up_at l.nodes) (λ x. hinted_at l.hints x l.place.slot l.place.key) l.keepers.keys l.keeper-iterator
