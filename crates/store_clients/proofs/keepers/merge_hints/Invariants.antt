use Rattle.ring_hints.specs.Hints.{hinted_at}
use Rattle.store_clients.proofs.SlotKeepers.{Merging}
use Rattle.store_clients.proofs.keepers.merge_hints.Given as goal

abbrev pub invariant-keepers : goal.invariant-keepers
invariant-keepers l = Merging l.initial.all l.keepers.keys l.keeper-iterator (λ x. hinted_at l.hints x l.place.slot l.place.key) l.all
