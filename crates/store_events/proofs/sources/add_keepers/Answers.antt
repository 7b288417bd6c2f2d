use Rattle.std.proofs.Common.{List, sym, subst}
use Rattle.ring_names.specs.declared.ids.NodeId.{NodeId}
use Rattle.store_maps.specs.Held.{held}
use Rattle.ring_hints.specs.Hints.{hinted_at}
use Rattle.plan_runs.specs.World.{World}
use Rattle.store_events.proofs.ChunkSources.{TakesSome, some_first, some_more, some_all, takes, takes_none}
use Rattle.store_events.proofs.sources.add_keepers.Goals as goal

pub keepers-init : goal.keepers-init
keepers-init c =
    let a = c.args.parts.now in
    let nodes = c.args.keepers.now.keys in
    let old = held c.args.read.now in
    subst (λ (rest : List NodeId). TakesSome a c.args.chunk (λ (w : World) (y : NodeId). w.hinted y.0 c.args.slot) nodes old old rest) (sym c.into_iter-keeper-iterator.ensures.into_iter_gives.0)
    (some_first a c.args.chunk (λ (w : World) (y : NodeId). w.hinted y.0 c.args.slot) nodes old)

pub keepers-preserved : goal.keepers-preserved
keepers-preserved c =
    let a = c.args.parts.now in
    let y = c.in-Some.keeper.now in
    let held_now = held c.keepers.read in
    some_more a c.args.chunk (λ (w : World) (z : NodeId). w.hinted z.0 c.args.slot) c.args.keepers.now.keys (held c.args.read.now) held_now held_now c.keepers.keeper-iterator c.next.new.self y (c.in-Some.ensures).steps
    (takes_none a c.requires.sized c.args.chunk (hinted_at a.hints y.0 c.args.slot) held_now (λ w. w.hinted y.0 c.args.slot) (λ w m. m.hinted y.0 c.args.slot) (c.in_default.ensures).none)
    c.keepers.invariant

pub keepers-preserved-in-Continue-1 : goal.keepers-preserved-in-Continue-1
keepers-preserved-in-Continue-1 c =
    let a = c.args.parts.now in
    let y = c.in-Some.keeper.now in
    let new = held c.take_in.new.self in
    some_more a c.args.chunk (λ (w : World) (z : NodeId). w.hinted z.0 c.args.slot) c.args.keepers.now.keys (held c.args.read.now) (held c.keepers.read) new c.keepers.keeper-iterator c.next.new.self y (c.in-Some.ensures).steps
    (takes a c.requires.sized c.args.chunk (hinted_at a.hints y.0 c.args.slot) (held c.keepers.read) (held c.in-Some-chunk_map.map.now) new (λ w. w.hinted y.0 c.args.slot) (c.requires.sized.hinted y.0 c.args.slot)
    (λ w m. m.hinted y.0 c.args.slot) (c.in-Some-chunk_map.ensures).some (c.in_ok-take_in.ensures).ok)
    c.keepers.invariant

pub returns-clause-ok : goal.returns-clause-ok
returns-clause-ok c =
    some_all c.args.parts.now c.args.chunk (λ (w : World) (y : NodeId). w.hinted y.0 c.args.slot) c.args.keepers.now.keys (held c.args.read.now) (held c.keepers.read) c.keepers.keeper-iterator (c.in-None.ensures).steps.0 c.keepers.invariant
