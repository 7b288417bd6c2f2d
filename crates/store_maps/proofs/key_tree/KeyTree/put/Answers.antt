use Rattle.store_maps.specs.Entries.{entries_of}
use Rattle.store_maps.specs.Places.{AreApart}
use Rattle.store_maps.proofs.OneAnswer.{on_either}
use Rattle.store_maps.proofs.Puts.{apart_put, apart_same}
use Rattle.store_maps.proofs.key_tree.KeyTree.put.Goals as goal

pub invariant_of-self : goal.invariant_of-self
invariant_of-self c =
    let old = entries_of c.args.self.now.entries in
    let new = entries_of c.put.new.self in
    record {
      order = c.put.ensures.order;
      apart = on_either c.put.result _ _ (AreApart new) c.put.ensures.ok c.put.ensures.err
          (λ put. apart_put old new c.args.key c.args.versions put c.args.self.now.apart c.requires)
          (λ same. apart_same old new same c.args.self.now.apart);
    }
