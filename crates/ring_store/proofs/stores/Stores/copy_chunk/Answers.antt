use Rattle.std.proofs.Common.{◌≡◌, ◌∙◌, ℕ, List, sym, subst}
use Rattle.std.proofs.Math.Path.{fun_ext}
use Rattle.ring_versions.specs.declared.version.Version.{Version}
use Rattle.store_maps.specs.Held.{held}
use Rattle.store_maps.specs.Ids.{id, of_chunk}
use Rattle.store_maps.proofs.OneAnswer.{on_ok}
use Rattle.ring_store.specs.Nodes.{MergesAtAll, at_node}
use Rattle.ring_store.specs.Slots.{at_slot}
use Rattle.ring_store.specs.Stores.{held_at}
use Rattle.ring_store.proofs.Spots.{held_here, same_spot, merges_same}
use Rattle.ring_store.proofs.stores.Stores.copy_chunk.Goals as goal

pub returns-clause-ok : goal.returns-clause-ok
returns-clause-ok c =
    let a = c.args.self.now in
    let reads : held c.in_ok-copy.copy ≡ (λ n. held_at a c.args.from.0 c.args.slot (id c.args.chunk n)) = fun_ext (λ n. (c.in_ok-copy.ensures).ok n ∙ sym (held_here a c.args.from.0 c.args.slot c.args.chunk c.requires.chunk n)) in
    on_ok c.give_chunk.result _ _ (λ h. subst (λ (f : ℕ → List Version). MergesAtAll (held_at a) (at_node c.args.to.0 (at_slot c.args.slot (of_chunk c.args.chunk f))) (held_at c.give_chunk.new.self)) reads
    (merges_same (held_at a) (held_at c.copy_of.new.self) (at_node c.args.to.0 (at_slot c.args.slot (of_chunk c.args.chunk (held c.in_ok-copy.copy)))) (held_at c.give_chunk.new.self) (same_spot a c.copy_of.new.self c.args.from.0 c.args.slot c.args.chunk c.requires.chunk c.copy_of.ensures.only c.copy_of.ensures.same) h)) c.give_chunk.ensures.ok
