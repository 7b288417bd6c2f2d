use Rattle.std.proofs.Common.{◌∙◌, inl, List, [], sym, subst, Option}
use Rattle.std.specs.Prelude.{unwrap_or}
use Rattle.ring_versions.specs.Fresh.{IsFreshFor}
use Rattle.ring_versions.specs.declared.version.Version.{Version}
use Rattle.store_maps.specs.Held.{map_entry, below}
use Rattle.store_maps.specs.Trees.{tree_entry}
use Rattle.store_maps.proofs.Over.{own_read, merged_at}
use Rattle.store_maps.proofs.key_map.KeyMap.settle.Goals as goal

pub returns-clause-merged : goal.returns-clause-merged
unfolding map_entry
returns-clause-merged c more fresh =
    let a = c.args.self.now in
    let key = c.args.key in
    let own = subst (λ (o : Option (List Version)). IsFreshFor (unwrap_or o []) more c.args.fresh) (own_read (tree_entry a.own key) (below a.shared key) c.requires.0) fresh in
    merged_at a c.settle.new.self key more (λ _. c.requires.0) (λ k here. c.settle.ensures.places k ∙ here) (λ k here. inl (sym (c.settle.ensures.places k) ∙ here)) (c.settle.ensures.merged more own)
