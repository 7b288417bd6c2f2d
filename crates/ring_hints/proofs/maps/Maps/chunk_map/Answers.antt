use Rattle.std.proofs.Common.{◌∙◌, sym, ap}
use Rattle.store_maps.specs.Ids.{id}
use Rattle.store_maps.specs.Slots.{held_by}
use Rattle.ring_hints.proofs.maps.Maps.chunk_map.Goals as goal

pub returns-in-Some-clause-some : goal.returns-in-Some-clause-some
returns-in-Some-clause-some c n = c.chunk.ensures.same n ∙ ap (λ o. held_by o (id c.args.chunk n)) (c.in-Some.ensures).value

pub returns-in-Some-clause-filled : goal.returns-in-Some-clause-filled
returns-in-Some-clause-filled c n h empty =
    (c.args.self.now.kept c.args.pair c.in-Some.map.now (sym (c.in-Some.ensures).value)).filled (id c.args.chunk n) (sym (c.chunk.ensures.places n) ∙ h) (sym (c.chunk.ensures.same n) ∙ empty)

pub returns-in-None-clause-none : goal.returns-in-None-clause-none
returns-in-None-clause-none c n = sym (ap (λ o. held_by o (id c.args.chunk n)) (c.in-None.ensures).value)
