use Rattle.store_maps.specs.Held.{held}
use Rattle.ring_store.specs.Stores.{held_at}
use Rattle.plan_runs.specs.World.{stage_now}
use Rattle.store_parts.specs.Parts.{ring_of, plan_of, kept_of}
use Rattle.store_events.proofs.ChunkSources.{takes, takes_none, owner_shows, owner_there}
use Rattle.store_events.proofs.sources.add_owner.Goals as goal

pub unreachable-requires : goal.unreachable-requires
unreachable-requires c = owner_there c.args.parts.now.slots c.args.slot c.requires.kept c.in_default.ensures

pub returns-in_ok-take_in-clause-ok : goal.returns-in_ok-take_in-clause-ok
returns-in_ok-take_in-clause-ok c =
    let a = c.args.parts.now in
    let owner = c.in-Some.owner in
    takes a c.requires.sized c.args.chunk (held_at a.stores owner.0 c.args.slot) (held c.args.read.now) (held c.in-Some-chunk_map.map.now) (held c.take_in.new.self)
    (λ w. w.stored (stage_now (ring_of a) (plan_of a) w c.args.slot).owner.0 c.args.slot) (c.requires.sized.stored owner.0 c.args.slot)
    (λ w m. owner_shows (ring_of a) (plan_of a) (kept_of a) w m c.args.slot owner c.in-Some.ensures) (c.in-Some-chunk_map.ensures).some (c.in_ok-take_in.ensures).ok

pub returns-in_default-chunk_map-clause-ok : goal.returns-in_default-chunk_map-clause-ok
returns-in_default-chunk_map-clause-ok c =
    let a = c.args.parts.now in
    let owner = c.in-Some.owner in
    takes_none a c.requires.sized c.args.chunk (held_at a.stores owner.0 c.args.slot) (held c.args.read.now)
    (λ w. w.stored (stage_now (ring_of a) (plan_of a) w c.args.slot).owner.0 c.args.slot)
    (λ w m. owner_shows (ring_of a) (plan_of a) (kept_of a) w m c.args.slot owner c.in-Some.ensures) (c.in_default-chunk_map.ensures).none
