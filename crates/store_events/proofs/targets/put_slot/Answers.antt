use Rattle.std.proofs.Common.{◌∙◌, ◌<◌, sym, ap, subst}
use Rattle.std.proofs.Props.{props}
use Rattle.store_parts.specs.Parts.{ring_of, plan_of, kept_of}
use Rattle.store_parts.proofs.StoreInWorld.{holds}
use Rattle.store_events.proofs.PutAndSlot.{key_within, slot_is, partition_within, exists}
use Rattle.store_events.proofs.targets.put_slot.Goals as goal

pub place-place-requires : goal.place-place-requires
place-place-requires c =
    let a = c.args.parts.now in
    holds a c.requires (hlevel props) (λ w m. key_within (ring_of a) (plan_of a) (kept_of a) w m c.args.put c.in-Some.now.now (sym c.in-Some.ensures))

pub returns : goal.returns
returns c w m =
    let a = c.args.parts.now in
    let put = c.in-Some.now.now in
    let at = sym c.in-Some.ensures in
    let place = c.place-place.result in
    let lies = c.place-place.ensures.place in (
      exists (ring_of a) (plan_of a) (kept_of a) w m c.args.put put at c.args.index (subst (λ n. c.args.index < n) (c.n.ensures.value ∙ ap (λ r. r.n) c.ring.ensures.value) c.if-index-n.false),
      slot_is (ring_of a) (plan_of a) (kept_of a) w m c.args.put put at a.keys.q c.requires.sized.keys place lies c.args.index,
      partition_within (ring_of a) (plan_of a) (kept_of a) w m c.args.put put at a.keys.q c.requires.sized.keys place lies,
    )
