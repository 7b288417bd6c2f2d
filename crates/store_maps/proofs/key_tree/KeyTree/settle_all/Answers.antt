use Rattle.std.proofs.Common.{sym, subst}
use Rattle.store_maps.proofs.WholeMaps.{Settling, settling_none, settling_ready, settling_more, settled}
use Rattle.store_maps.proofs.key_tree.KeyTree.settle_all.Goals as goal

pub keys-init : goal.keys-init
keys-init c = subst (Settling c.args.self.now c.args.self.now c.args.fresh) (sym c.into_iter-key-iterator.ensures.into_iter_gives.0) (settling_none c.args.self.now c.args.fresh c.into_iter-key-iterator.ensures.into_iter_gives.5)

pub settle-requires : goal.settle-requires
settle-requires c =
    settling_ready c.args.self.now c.keys.self c.args.fresh c.keys.key-iterator c.next.new.self c.in-Some.key c.in-Some.fresh (c.in-Some.ensures).steps c.keys.invariant c.requires

pub keys-preserved : goal.keys-preserved
keys-preserved c =
    settling_more c.args.self.now c.keys.self c.args.fresh c.keys.key-iterator c.next.new.self c.in-Some.key c.in-Some.fresh (c.in-Some.ensures).steps c.keys.invariant c.settle.new.self
    c.settle.ensures.merged c.settle.ensures.others c.settle.ensures.places

pub returns-clause-merged : goal.returns-clause-merged
returns-clause-merged c = settled c.args.self.now c.keys.self c.args.fresh c.keys.key-iterator (c.in-None.ensures).steps.0 c.keys.invariant
