use Rattle.std.proofs.Common.{◌+◌, ◌*◌, refl}
use Rattle.store_maps.specs.Chunks.{held_of}
use Rattle.store_maps.specs.Held.{held}
use Rattle.store_maps.proofs.Chunks.{apart_of, no_place}
use Rattle.store_maps.proofs.MergesInTurn.{merge_none}
use Rattle.store_maps.proofs.OneAnswer.{on_ok}
use Rattle.ring_store.specs.Seats.{seat_of}
use Rattle.ring_store.specs.Stores.{map_on}
use Rattle.ring_store.proofs.Spots.{merged_spot}
use Rattle.ring_store.proofs.stores.Stores.give_chunk.Goals as goal

pub returns-then-is_empty-clause-ok : goal.returns-then-is_empty-clause-ok
returns-then-is_empty-clause-ok c =
    let o = map_on c.args.self.now (16 * c.args.slot.partition + c.args.chunk) (seat_of c.args.node.0 c.args.slot) in
    merged_spot c.args.self.now c.args.self.now c.args.node.0 c.args.slot c.args.chunk c.requires.chunk (record { space = refl; others = λ j t e. refl }) (held c.args.other.now)
    (λ n. rw (no_place c.args.other.now n ((c.if-is_empty.ensures).0 refl n)) (merge_none (held_of o n) (apart_of o n)))

pub returns-clause-ok : goal.returns-clause-ok
returns-clause-ok c = on_ok c.take_in.result _ _ (merged_spot c.args.self.now c.take_in.new.self c.args.node.0 c.args.slot c.args.chunk c.requires.chunk c.take_in.ensures.only (held c.args.other.now)) c.take_in.ensures.ok
