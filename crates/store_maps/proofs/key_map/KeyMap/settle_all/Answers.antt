use Rattle.store_maps.specs.Held.{map_entry}
use Rattle.store_maps.proofs.Over.{merged_keys}
use Rattle.store_maps.proofs.key_map.KeyMap.settle_all.Goals as goal

pub returns-clause-merged : goal.returns-clause-merged
unfolding map_entry
returns-clause-merged c = merged_keys c.args.self.now c.settle_all.new.self c.args.fresh c.requires c.settle_all.ensures.places c.settle_all.ensures.merged
