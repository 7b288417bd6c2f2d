use Rattle.std.proofs.Common.{◌≡◌, ◌∙◌, ℕ, List, sym, subst}
use Rattle.std.proofs.Math.Path.{fun_ext}
use Rattle.ring_versions.specs.Versions.{IsMerge}
use Rattle.ring_versions.specs.declared.version.Version.{Version}
use Rattle.store_maps.specs.Held.{held}
use Rattle.store_maps.specs.Merges.{AreFreshFor}
use Rattle.store_maps.proofs.MergesInTurn.{merge_turned}
use Rattle.store_maps.proofs.key_map.KeyMap.put_over.Goals as goal

pub returns-clause-ok : goal.returns-clause-ok
returns-clause-ok c k =
    let mine = held c.args.self.now in
    let same : held c.prepare_all.new.self ≡ held c.in_ok-made.made = fun_ext c.prepare_all.ensures.same in
    let merged = c.settle_all.ensures.merged mine (subst (λ (was : ℕ → List Version). AreFreshFor was mine c.in_ok-fresh.fresh) (sym same) (c.in_ok-fresh.ensures).ok) in
    merge_turned (held c.args.other.now k) (mine k) (held c.settle_all.new.self k)
    (subst (λ (was : List Version). IsMerge was (mine k) (held c.settle_all.new.self k)) (c.prepare_all.ensures.same k ∙ (c.in_ok-made.ensures).same k) (merged k))
