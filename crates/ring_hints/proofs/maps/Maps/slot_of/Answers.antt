use Rattle.store_maps.proofs.OneAnswer.{on_some}
use Rattle.ring_hints.proofs.PairChanged.{keeps_is}
use Rattle.ring_hints.proofs.maps.Maps.slot_of.Goals as goal

pub returns-clause-some : goal.returns-clause-some
returns-clause-some c =
    let a = c.args.self.now in
    on_some c.slot_of.result _ _ (λ s there none. (let absent = (keeps_is a c.args.keeper.0 s).1 none in cc)) c.slot_of.ensures.some
