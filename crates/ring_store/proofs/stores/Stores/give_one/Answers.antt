use Rattle.std.proofs.Common.{List, subst}
use Rattle.ring_versions.specs.declared.version.Version.{Version}
use Rattle.store_maps.specs.Merges.{at_number}
use Rattle.store_maps.specs.declared.key_id.KeyId.{KeyId}
use Rattle.store_maps.proofs.OneAnswer.{on_ok}
use Rattle.ring_store.specs.Nodes.{MergesAtAll, at_node}
use Rattle.ring_store.specs.Slots.{at_slot}
use Rattle.ring_store.specs.Stores.{held_at}
use Rattle.ring_store.proofs.Spots.{merged_spot, key_of_chunk}
use Rattle.ring_store.proofs.stores.Stores.give_one.Goals as goal

pub returns-clause-ok : goal.returns-clause-ok
returns-clause-ok c =
    let at = c.args.at.now in
    on_ok c.merge.result _ _ (λ h. subst (λ (more : KeyId → List Version). MergesAtAll (held_at c.args.self.now) (at_node c.args.node.0 (at_slot at.slot more)) (held_at c.merge.new.self)) (key_of_chunk at.key c.args.more.now)
    (merged_spot c.args.self.now c.merge.new.self c.args.node.0 at.slot at.key.chunk c.requires.chunk c.merge.ensures.only (at_number at.key.number c.args.more.now) h)) c.merge.ensures.ok
