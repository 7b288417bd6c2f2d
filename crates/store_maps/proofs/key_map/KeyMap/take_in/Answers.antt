use Rattle.std.proofs.Common.{◌≡◌, List, ℕ, sym, subst}
use Rattle.std.proofs.Math.Path.{fun_ext}
use Rattle.ring_versions.specs.declared.version.Version.{Version}
use Rattle.store_maps.specs.Held.{held}
use Rattle.store_maps.specs.Merges.{MergesAll, AreFreshFor}
use Rattle.store_maps.proofs.key_map.KeyMap.take_in.Goals as goal

pub returns-clause-ok : goal.returns-clause-ok
returns-clause-ok c =
    let more = held c.args.other.now in
    let same : held c.prepare_all.new.self ≡ held c.args.self.now = fun_ext c.prepare_all.ensures.same in
    subst (λ (was : ℕ → List Version). MergesAll was more (held c.settle_all.new.self)) same
    (c.settle_all.ensures.merged more (subst (λ (was : ℕ → List Version). AreFreshFor was more c.in_ok-fresh.fresh) (sym same) (c.in_ok-fresh.ensures).ok))
