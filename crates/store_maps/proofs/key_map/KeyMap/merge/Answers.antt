use Rattle.std.proofs.Common.{List, [], subst, Option}
use Rattle.std.specs.Prelude.{unwrap_or}
use Rattle.ring_versions.specs.Versions.{IsMerge}
use Rattle.ring_versions.specs.declared.version.Version.{Version}
use Rattle.store_maps.specs.Held.{map_entry, held}
use Rattle.store_maps.specs.Merges.{at_number}
use Rattle.store_maps.proofs.OneAnswer.{on_ok}
use Rattle.store_maps.proofs.Over.{merged_at}
use Rattle.store_maps.proofs.key_map.KeyMap.merge.Goals as goal

pub returns-clause-ok : goal.returns-clause-ok
unfolding map_entry
returns-clause-ok c =
    let b = c.bring_up.new.self in
    let new = c.merge.new.self in
    let key = c.args.key in
    on_ok c.merge.result _ _ (λ merged k. subst (λ (o : Option (List Version)). IsMerge (unwrap_or o []) (at_number key c.args.more.now k) (held (record { own = new; shared = b.shared }) k)) (c.bring_up.ensures.same k)
    (merged_at b new key c.args.more.now (c.in_ok-bring_up.ensures).up c.merge.ensures.stays c.merge.ensures.only merged k)) c.merge.ensures.ok
