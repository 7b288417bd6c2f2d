use Rattle.std.proofs.Common.{List, sym, subst}
use Rattle.std.specs.Prelude.{◌&&◌, ◌==◌, ℕ}
use Rattle.ring_names.specs.declared.ids.NodeId.{NodeId}
use Rattle.plan_runs.specs.World.{World}
use Rattle.store_parts.specs.Parts.{ring_of}
use Rattle.store_events.specs.ChunkKeepers.{keeps_part}
use Rattle.store_events.proofs.LeastKeeperDown.{Lessening, lessening_first, lessening_more, lessening_all}
use Rattle.store_events.proofs.chunk_keepers.with_keepers.Goals as goal

pub keepers-init : goal.keepers-init
keepers-init c =
    let a = c.args.parts.now in
    let nodes = c.args.keepers.now.keys in
    subst (λ (rest : List NodeId). Lessening a (λ (w : World) (y : NodeId) (x : ℕ). (x == y.0) && keeps_part (ring_of a) w c.args.slot c.args.chunk y.0) nodes c.args.found c.args.found rest) (sym c.into_iter-keeper-iterator.ensures.into_iter_gives.0)
    (lessening_first a (λ (w : World) (y : NodeId) (x : ℕ). (x == y.0) && keeps_part (ring_of a) w c.args.slot c.args.chunk y.0) nodes c.args.found)

pub keepers-preserved : goal.keepers-preserved
keepers-preserved c =
    let a = c.args.parts.now in
    lessening_more a (λ (w : World) (y : NodeId) (x : ℕ). (x == y.0) && keeps_part (ring_of a) w c.args.slot c.args.chunk y.0) c.args.keepers.now.keys c.args.found c.keepers.least c.with_keeper-least.result c.keepers.keeper-iterator c.next.new.self
    c.in-Some.keeper.now (c.in-Some.ensures).steps c.with_keeper-least.ensures c.keepers.invariant

pub returns : goal.returns
returns c =
    let a = c.args.parts.now in
    lessening_all a (λ (w : World) (y : NodeId) (x : ℕ). (x == y.0) && keeps_part (ring_of a) w c.args.slot c.args.chunk y.0) c.args.keepers.now.keys c.args.found c.keepers.least c.keepers.keeper-iterator (c.in-None.ensures).steps.0 c.keepers.invariant
