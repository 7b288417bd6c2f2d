use Rattle.std.proofs.Common.{◌∙◌, not, sym, ap}
use Rattle.std.specs.Prelude.{is_some}
use Rattle.plan_runs.specs.World.{keeps}
use Rattle.store_parts.specs.Parts.{ring_of, plan_of, kept_of}
use Rattle.store_parts.proofs.WhoKeepsHints.{keeps_tells, both_tell}
use Rattle.store_events.proofs.LeastKeeperDown.{keeps_named}
use Rattle.store_events.proofs.PutAndSlot.{kept_in_ring}
use Rattle.store_events.proofs.FirstRefusal.{handoff_no_slot, handoff_not_kept, handoff_down, handoff_last}
use Rattle.store_events.proofs.handing.handoff_refusal.Goals as goal

pub returns-then-is_none : goal.returns-then-is_none
returns-then-is_none c w m =
    let a = c.args.parts.now in
    let ring_slot = sym (kept_in_ring (ring_of a) (plan_of a) (kept_of a) w m c.args.slot) ∙ ap is_some (sym c.at.ensures) ∙ c.is_none.ensures in
    handoff_no_slot (ring_of a) (plan_of a) (kept_of a) w m c.args.node c.args.slot (ring_slot ∙ ap not c.if-is_none.true)

pub returns-then-not-keeps : goal.returns-then-not-keeps
returns-then-not-keeps c w m =
    let a = c.args.parts.now in
    let ring_slot = sym (kept_in_ring (ring_of a) (plan_of a) (kept_of a) w m c.args.slot) ∙ ap is_some (sym c.at.ensures) ∙ c.is_none.ensures in
    let kept = both_tell (keeps w c.args.node.0 c.args.slot) c.keeps.result (keeps_tells (ring_of a) (plan_of a) (kept_of a) w m c.args.node.0 c.args.slot) (keeps_named a c.requires.sized c.args.node.0 c.args.slot c.keeps.result c.keeps.ensures) in
    handoff_not_kept (ring_of a) (plan_of a) (kept_of a) w m c.args.node c.args.slot (ring_slot ∙ ap not c.if-is_none.false) (kept ∙ c.if-not-keeps.true)

pub returns-then-not-is_up : goal.returns-then-not-is_up
returns-then-not-is_up c w m =
    let a = c.args.parts.now in
    let ring_slot = sym (kept_in_ring (ring_of a) (plan_of a) (kept_of a) w m c.args.slot) ∙ ap is_some (sym c.at.ensures) ∙ c.is_none.ensures in
    let kept = both_tell (keeps w c.args.node.0 c.args.slot) c.keeps.result (keeps_tells (ring_of a) (plan_of a) (kept_of a) w m c.args.node.0 c.args.slot) (keeps_named a c.requires.sized c.args.node.0 c.args.slot c.keeps.result c.keeps.ensures) in
    handoff_down (ring_of a) (plan_of a) (kept_of a) w m c.args.node c.args.slot (ring_slot ∙ ap not c.if-is_none.false) (kept ∙ c.if-not-keeps.false) (sym c.is_up.ensures ∙ c.if-not-is_up.true)

pub returns : goal.returns
returns c w m =
    let a = c.args.parts.now in
    let ring_slot = sym (kept_in_ring (ring_of a) (plan_of a) (kept_of a) w m c.args.slot) ∙ ap is_some (sym c.at.ensures) ∙ c.is_none.ensures in
    let kept = both_tell (keeps w c.args.node.0 c.args.slot) c.keeps.result (keeps_tells (ring_of a) (plan_of a) (kept_of a) w m c.args.node.0 c.args.slot) (keeps_named a c.requires.sized c.args.node.0 c.args.slot c.keeps.result c.keeps.ensures) in
    c.served_refusal.ensures
    ∙ handoff_last (ring_of a) (plan_of a) (kept_of a) w m c.args.node c.args.slot (ring_slot ∙ ap not c.if-is_none.false) (kept ∙ c.if-not-keeps.false) (sym c.is_up.ensures ∙ c.if-not-is_up.false)
