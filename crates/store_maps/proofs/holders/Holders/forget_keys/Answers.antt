use Rattle.std.proofs.Common.{◌∙◌, ap}
use Rattle.store_maps.specs.Entries.{entries_of, left_of}
use Rattle.store_maps.specs.Holders.{holds}
use Rattle.store_maps.proofs.EntriesLeft.{found}
use Rattle.store_maps.proofs.HoldersChanged.{forgetting_more}
use Rattle.store_maps.proofs.holders.Holders.forget_keys.Goals as goal

pub keys-preserved : goal.keys-preserved
keys-preserved c =
    let all = entries_of c.args.map.now.entries in
    let start = ap left_of c.into_iter-number-iterator.ensures.into_iter_gives ∙ c.walk-number-items.ensures in
    let at = found all c.keys.yielded c.into_iter-number-iterator.result c.keys.number-iterator c.next.new.self c.next.result (c.in-Some.number, c.in-Some.field-0-1) c.keys.yielded_by c.in-Some.is c.next.ensures.steps start c.args.map.now.order in
    forgetting_more c.args.node.0 c.args.chunk (holds c.args.self.now) (holds c.keys.self) (holds c.remove.new.self) all (left_of c.keys.number-iterator) (left_of c.next.new.self) c.in-Some.number.now c.in-Some.field-0-1.now
    (c.in-Some.ensures).steps at c.remove.ensures c.keys.invariant
