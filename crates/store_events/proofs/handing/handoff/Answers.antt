use Rattle.std.proofs.Common.{inl, ◌∙◌, ℕ, List, refl, sym, subst}
use Rattle.ring_names.specs.declared.ids.Slot.{Slot}
use Rattle.ring_versions.specs.declared.version.Version.{Version}
use Rattle.store_parts.specs.Kept.{Tells}
use Rattle.store_maps.proofs.OneAnswer.{always_err}
use Rattle.std.proofs.Props.{props}
use Rattle.store_maps.specs.Slots.{held_for}
use Rattle.ring_store.specs.Stores.{held_at}
use Rattle.ring_hints.specs.Hints.{hinted_at}
use Rattle.store_parts.specs.Parts.{ring_of, plan_of, kept_of}
use Rattle.store_parts.proofs.StoreInWorld.{holds}
use Rattle.ring_hints.specs.Views.{is_of, pair_of}
use Rattle.store_parts.specs.Numbers.{by_bytes, by_keys}
use Rattle.store_parts.proofs.Numbers.{given, kept_as, placed_as, placed_given, placed_less, same}
use Rattle.store_events.proofs.LeastKeeperDown.{none_kept}
use Rattle.store_events.proofs.ShownLeft.{forgets_named, placed_left}
use Rattle.store_events.proofs.RequiresMet.{slot_ready, mirror_ready}
use Rattle.store_events.proofs.PutAndSlot.{slot_kept}
use Rattle.store_events.proofs.Handoffs.{handoff_slot, handoff_keeps, handed}
use Rattle.store_events.proofs.handing.handoff.Goals as goal

pub unreachable-requires : goal.unreachable-requires
unreachable-requires c =
    let a = c.args.parts.now in
    holds a c.requires.sound (hlevel props) (λ w m.
    slot_kept (ring_of a) (plan_of a) (kept_of a) w m c.args.slot (handoff_slot (ring_of a) (plan_of a) (kept_of a) w m c.args.node c.args.slot (sym (c.requires.passes w m))) (sym c.in_default.ensures))

pub unreachable-requires-in_default-map : goal.unreachable-requires-in_default-map
unreachable-requires-in_default-map c =
    let a = c.args.parts.now in
    holds a c.requires.sound (hlevel props) (λ w m.
    handoff_keeps (ring_of a) (plan_of a) (kept_of a) w m c.args.node c.args.slot (sym (c.requires.passes w m)) ((none_kept a c.requires.sound.sized c.args.slot c.args.node.0).0 (c.in_default-map.ensures).none))

pub give_slot-requires-clause-partition : goal.give_slot-requires-clause-partition
give_slot-requires-clause-partition c = slot_ready c.args.parts.now c.requires.sound c.args.slot c.in-Some.served c.in-Some.ensures

pub give_slot-requires-clause-mirror : goal.give_slot-requires-clause-mirror
give_slot-requires-clause-mirror c = mirror_ready c.args.parts.now c.requires.sound c.args.slot c.in-Some.served c.in-Some.ensures

pub returns-clause-ok : goal.returns-clause-ok
returns-clause-ok c w m =
    let a = c.args.parts.now in
    let served = c.in-Some.served in
    let kept = held_for c.in-Some-map.kept.now in
    handed (ring_of a) (plan_of a) (kept_of a) w m c.args.node c.args.slot (sym (c.requires.passes w m)) served (by_bytes a.keys kept) (by_keys a.keys (held_at c.give_slot.new.self)) (by_keys a.keys (hinted_at c.take.new.self))
    (sym c.in-Some.ensures) (same a.keys kept (hinted_at a.hints c.args.node.0 c.args.slot) (c.in-Some-map.ensures).some)
    (given a.keys served.owner served.mirror c.args.slot kept (held_at a.stores) (held_at c.give_slot.new.self) (c.in_ok-give_slot.ensures).ok)
    (forgets_named a.keys (is_of (pair_of c.args.node.0 c.args.slot)) (hinted_at a.hints) (hinted_at c.take.new.self) c.take.ensures.after)

pub returns-clause-follows : goal.returns-clause-follows
returns-clause-follows c =
    let a = c.args.parts.now in
    let s = c.requires.sound.sized in
    let served = c.in-Some.served in
    let kept = held_for c.in-Some-map.kept.now in
    let hints = hinted_at a.hints c.args.node.0 c.args.slot in
    record {
      approved = refl;
      sized = record {
        space = (c.in_ok-give_slot.ensures).space ∙ s.space;
        keys = s.keys;
        numbered = s.numbered;
        stored = placed_given a.keys served.owner served.mirror c.args.slot kept (held_at a.stores) (held_at c.give_slot.new.self) s.stored
            (placed_less a.keys hints kept (s.hinted c.args.node.0 c.args.slot) (λ k. inl ((c.in-Some-map.ensures).some k))) (c.in_ok-give_slot.ensures).ok;
        hinted = placed_left a.keys (is_of (pair_of c.args.node.0 c.args.slot)) (hinted_at a.hints) (hinted_at c.take.new.self) c.take.ensures.after s.hinted;
      };
    }

pub returns-in_err-give_slot-clause-same : goal.returns-in_err-give_slot-clause-same
returns-in_err-give_slot-clause-same c =
    let a = c.args.parts.now in
    always_err c.from_residual.result _ (λ w m.
    subst (λ (held : ℕ → Slot → List ℕ → List Version). Tells (ring_of a) (plan_of a) (record (kept_of a) { stored = held }) w) (kept_as a.keys (held_at a.stores) (held_at c.give_slot.new.self) (c.in_err-give_slot.ensures).err) m)

pub returns-in_err-give_slot-clause-follows : goal.returns-in_err-give_slot-clause-follows
returns-in_err-give_slot-clause-follows c =
    let a = c.args.parts.now in
    let s = c.requires.sound.sized in
    record {
      approved = refl;
      sized = record { space = (c.in_err-give_slot.ensures).space ∙ s.space; keys = s.keys; numbered = s.numbered; stored = placed_as a.keys (held_at a.stores) (held_at c.give_slot.new.self) s.stored (c.in_err-give_slot.ensures).err; hinted = s.hinted };
    }
