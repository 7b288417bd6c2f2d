use Rattle.ring_names.proofs.Places.{get-place, place-below}
use Rattle.store_clients.proofs.KeysNumbered.{lies_in}
use Rattle.store_clients.proofs.keys.number_of.Goals as goal

pub place-place-requires : goal.place-place-requires
place-place-requires c = place-below c.add.new.self.keys c.in_ok-number.number c.args.key.now (c.in_ok-number.ensures).number

pub returns-clause-number : goal.returns-clause-number
returns-clause-number c = get-place c.add.new.self.keys c.in_ok-number.number c.args.key.now (c.in_ok-number.ensures).number

pub returns-clause-lies : goal.returns-clause-lies
returns-clause-lies c =
    lies_in c.args.keys.now c.add.new.self c.args.key.now c.in_ok-number.number c.place-place.result (c.in_ok-number.ensures).keys (c.in_ok-number.ensures).number c.place-place.ensures.place c.place-place.ensures.partition
