use Rattle.ring_hints.proofs.PairChanged.{keeps_is}
use Rattle.ring_hints.proofs.maps.Maps.nth.Goals as goal

pub returns-in-Some-clause-some : goal.returns-in-Some-clause-some
returns-in-Some-clause-some c none =
    let a = c.args.self.now in
    let pair = c.in-Some.pair in
    let absent = (keeps_is a pair.keeper.0 pair.slot).1 none in
    let there = (c.in-Some.ensures).some in
    cc
