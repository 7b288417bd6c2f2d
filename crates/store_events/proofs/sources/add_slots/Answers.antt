use Rattle.std.proofs.Common.{ℕ}
use Rattle.store_maps.specs.Held.{held}
use Rattle.plan_runs.specs.Versions.{slot_has, some_hinted}
use Rattle.plan_runs.specs.World.{World, slot_at, stage_now}
use Rattle.store_parts.specs.Parts.{ring_of, plan_of}
use Rattle.store_events.proofs.ChunkSources.{some_first, some_more, some_all, takes_both, kept_later, none_left}
use Rattle.store_events.proofs.sources.add_slots.Goals as goal

pub slots-init : goal.slots-init
slots-init c =
    let a = c.args.parts.now in (
      c.requires.kept,
      some_first a c.args.chunk (λ (w : World) (i : ℕ). slot_has (ring_of a) (plan_of a) w (slot_at c.args.partition i)) c.args.from.now (held c.args.read.now),
    )

pub slots-preserved : goal.slots-preserved
slots-preserved c =
    let a = c.args.parts.now in
    let i = c.in-Some.index.now in
    let slot = slot_at c.args.partition i in
    let mid = held c.add_owner.new.read in
    let new = held c.add_hints.new.read in (
      kept_later a.slots c.args.partition c.slots.rest.now c.in-Some.later.now i (c.in-Some.ensures).cases.0 c.slots.invariant.0,
      some_more a c.args.chunk (λ (w : World) (j : ℕ). slot_has (ring_of a) (plan_of a) w (slot_at c.args.partition j)) c.args.from.now (held c.args.read.now) (held c.slots.read) new c.slots.rest.now c.in-Some.later.now i (c.in-Some.ensures).cases.0
          (takes_both a c.args.chunk (held c.slots.read) mid new (λ w. w.stored (stage_now (ring_of a) (plan_of a) w slot).owner.0 slot) (λ w. some_hinted (ring_of a) w slot) (rw c.from.ensures at (c.in_ok-add_owner.ensures).ok) (rw c.from.ensures at (c.in_ok-add_hints.ensures).ok))
          c.slots.invariant.1,
    )

pub returns-clause-ok : goal.returns-clause-ok
returns-clause-ok c =
    let a = c.args.parts.now in
    some_all a c.args.chunk (λ (w : World) (j : ℕ). slot_has (ring_of a) (plan_of a) w (slot_at c.args.partition j)) c.args.from.now (held c.args.read.now) (held c.slots.read) c.slots.rest.now (none_left c.slots.rest.now (c.in_default.ensures).cases) c.slots.invariant.1
