use Rattle.std.specs.Prelude.{ℕ, None}
use Rattle.plan_runs.specs.World.{World, slot_at}
use Rattle.store_parts.specs.Parts.{ring_of}
use Rattle.store_events.specs.ChunkKeepers.{keeps_part}
use Rattle.store_events.proofs.ChunkSources.{none_left}
use Rattle.store_events.proofs.LeastKeeperDown.{lessening_first, lessening_more, lessening_all}
use Rattle.store_events.proofs.chunk_keepers.with_slots.Goals as goal

pub slots-init : goal.slots-init
slots-init c = (let a = c.args.parts.now in lessening_first a (λ (w : World) (i : ℕ). keeps_part (ring_of a) w (slot_at c.args.partition i) c.args.chunk) c.args.from.now None)

pub slots-preserved : goal.slots-preserved
slots-preserved c =
    let a = c.args.parts.now in
    lessening_more a (λ (w : World) (i : ℕ). keeps_part (ring_of a) w (slot_at c.args.partition i) c.args.chunk) c.args.from.now None c.slots.least c.with_slot-least.result c.slots.rest.now c.in-Some.later.now
    c.in-Some.index.now (c.in-Some.ensures).cases.0 (rw c.from.ensures at c.with_slot-least.ensures) c.slots.invariant

pub returns : goal.returns
returns c =
    let a = c.args.parts.now in
    lessening_all a (λ (w : World) (i : ℕ). keeps_part (ring_of a) w (slot_at c.args.partition i) c.args.chunk) c.args.from.now None c.slots.least c.slots.rest.now (none_left c.slots.rest.now (c.in_default.ensures).cases) c.slots.invariant
