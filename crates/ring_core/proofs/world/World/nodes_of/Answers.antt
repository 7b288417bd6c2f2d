use Rattle.std.proofs.Common.{◌≡◌, ◌∙◌, Option, None, Some, ap}
use Rattle.ring_names.specs.declared.ids.NodeId.{NodeId}
use Rattle.store_parts.specs.declared.slots.SlotNow.{SlotNow}
use Rattle.store_parts.specs.Parts.{ring_of, plan_of, kept_of}
use Rattle.store_parts.proofs.StoreInWorld.{slot_there}
use Rattle.ring_core.proofs.world.World.nodes_of.Goals as goal

-- an owner and a mirror that are these
both : (x y : SlotNow) (owner : NodeId) (mirror : Option NodeId) → ◌≡◌ {A = Option SlotNow} (Some x) (Some y) → y.owner ≡ owner → y.mirror ≡ mirror
    → ◌≡◌ {A = Option (NodeId × Option NodeId)} (Some (x.owner, x.mirror)) (Some (owner, mirror))
both x y owner mirror h e f = (let k : x ≡ y = cc in ap (λ (z : NodeId × Option NodeId). Some z) (λ i. ((ap (λ (s : SlotNow). s.owner) k ∙ e) i, (ap (λ (s : SlotNow). s.mirror) k ∙ f) i)))

pub returns-in-Some : goal.returns-in-Some
returns-in-Some c w m e =
    let a = c.args.self.now.parts in
    let there = slot_there (ring_of a) (plan_of a) (kept_of a) w m c.args.slot e in
    both c.in-Some.now there.0 _ _ (c.in-Some.ensures ∙ there.1) there.2.owner there.2.mirror

pub returns-in-None : goal.returns-in-None
returns-in-None c w m e =
    let a = c.args.self.now.parts in
    let there = slot_there (ring_of a) (plan_of a) (kept_of a) w m c.args.slot e in
    absurd (let h : ◌≡◌ {A = Option SlotNow} None (Some there.0) = c.in-None.ensures ∙ there.1 in cc)
