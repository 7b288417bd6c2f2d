use Rattle.std.proofs.Common.{◌∙◌, ◌+◌, ◌*◌, List, Some, sym, ap, subst}
use Rattle.ring_versions.specs.Fresh.{IsFreshFor}
use Rattle.ring_versions.specs.declared.version.Version.{Version}
use Rattle.store_maps.specs.Chunks.{held_of}
use Rattle.store_maps.specs.Ids.{of_chunk}
use Rattle.store_maps.specs.Merges.{at_number}
use Rattle.store_maps.specs.declared.key_id.KeyId.{KeyId}
use Rattle.store_maps.proofs.OneAnswer.{always_err}
use Rattle.ring_store.specs.Nodes.{MergesAtAll, at_node, at_nodes}
use Rattle.ring_store.specs.Seats.{seat_of}
use Rattle.ring_store.specs.Slots.{at_slot}
use Rattle.ring_store.specs.Stores.{held_at}
use Rattle.ring_store.specs.declared.seat.Seat.{Seat}
use Rattle.ring_store.proofs.Spots.{same_spot, merged_spot, merges_same, merges_both, then_same, key_of_chunk}
use Rattle.ring_store.proofs.stores.Stores.give_both.Goals as goal

pub returns-in_err-merge-clause-err : goal.returns-in_err-merge-clause-err
returns-in_err-merge-clause-err c = always_err c.from_residual-in_err-merge.result _ (then_same c.args.self.now c.prepare.new.self c.merge.new.self
    (same_spot c.prepare.new.self c.merge.new.self c.args.owner.0 c.args.at.now.slot c.args.at.now.key.chunk c.requires.chunk c.merge.ensures.only (c.in_err-merge.ensures).err)
    (same_spot c.args.self.now c.prepare.new.self c.args.mirror.0 c.args.at.now.slot c.args.at.now.key.chunk c.requires.chunk c.prepare.ensures.only c.prepare.ensures.same))

pub returns-clause-ok : goal.returns-clause-ok
returns-clause-ok c =
    let slot = c.args.at.now.slot in
    let key = c.args.at.now.key in
    let more = at_number key.number c.args.more.now in
    let row = 16 * slot.partition + key.chunk in
    let seat = seat_of c.args.mirror.0 slot in
    let same = same_spot c.args.self.now c.prepare.new.self c.args.mirror.0 slot key.chunk c.requires.chunk c.prepare.ensures.only c.prepare.ensures.same in
    let own = merged_spot c.prepare.new.self c.merge.new.self c.args.owner.0 slot key.chunk c.requires.chunk c.merge.ensures.only more (c.in_ok-merge.ensures).ok in
    let kept = c.merge.ensures.only.others row seat (λ e t. c.requires.apart (ap (λ (u : Seat). u.node.0) t)) in
    let fresh = subst (λ (was : List Version). IsFreshFor was c.args.more.now c.in_ok-fresh.fresh) (sym (ap (λ o. held_of o key.number) kept ∙ c.prepare.ensures.same key.number)) (c.in_ok-fresh.ensures).ok in
    let mirrored = merged_spot c.merge.new.self c.settle.new.self c.args.mirror.0 slot key.chunk c.requires.chunk c.settle.ensures.only more (c.settle.ensures.merged c.args.more.now fresh) in
    subst (λ (comes : KeyId → List Version). MergesAtAll (held_at c.args.self.now) (at_nodes c.args.owner (Some c.args.mirror) (at_slot slot comes)) (held_at c.settle.new.self)) (key_of_chunk key c.args.more.now)
    (merges_both (held_at c.args.self.now) (held_at c.merge.new.self) (held_at c.settle.new.self) c.args.owner c.args.mirror (at_slot slot (of_chunk key.chunk more)) c.requires.apart
    (merges_same (held_at c.args.self.now) (held_at c.prepare.new.self) (at_node c.args.owner.0 (at_slot slot (of_chunk key.chunk more))) (held_at c.merge.new.self) same own) mirrored)
