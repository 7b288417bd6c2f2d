use Rattle.store_maps.specs.Entries.{entries_of}
use Rattle.store_maps.proofs.Puts.{others_put}
use Rattle.store_maps.proofs.Settled.{settled_apart, settled_merged, settled_places}
use Rattle.store_maps.proofs.key_tree.KeyTree.settle.Goals as goal

pub invariant_of-self : goal.invariant_of-self
invariant_of-self c =
    let t = c.absorb.ensures.taken in
    record {
      order = c.absorb.ensures.order;
      apart = settled_apart c.args.key (entries_of c.args.self.now.entries) (entries_of c.absorb.new.self) t.before t.after c.args.fresh t.at t.put t.became c.args.self.now.apart c.requires.1;
    }

pub returns-clause-merged : goal.returns-clause-merged
returns-clause-merged c =
    let t = c.absorb.ensures.taken in
    settled_merged c.args.key (entries_of c.args.self.now.entries) (entries_of c.absorb.new.self) t.before t.after c.args.fresh t.at t.put t.became c.args.self.now.apart

pub returns-clause-others : goal.returns-clause-others
returns-clause-others c =
    let t = c.absorb.ensures.taken in
    others_put (entries_of c.args.self.now.entries) (entries_of c.absorb.new.self) c.args.key t.after t.put

pub returns-clause-places : goal.returns-clause-places
returns-clause-places c =
    let t = c.absorb.ensures.taken in
    settled_places c.args.key (entries_of c.args.self.now.entries) (entries_of c.absorb.new.self) t.before t.after c.args.fresh t.at t.put
