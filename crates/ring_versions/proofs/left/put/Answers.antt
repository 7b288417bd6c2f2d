use Rattle.std.proofs.Common.{◌∷◌, ◌++◌, [], List, sym, subst}
use Rattle.std.proofs.Math.ListN.{set}
use Rattle.std.proofs.lemmas.Result.{on_ok_weaker}
use Rattle.ring_versions.specs.declared.version.Version.{Version}
use Rattle.ring_versions.specs.Chunks.{all_of}
use Rattle.ring_versions.specs.Parts.{IsReordered}
use Rattle.ring_versions.proofs.Reordered.{put_at}
use Rattle.ring_versions.proofs.left.put.Goals as goal

pub returns-clause-ok : goal.returns-clause-ok
returns-clause-ok c =
    let made = c.place_for.new.made.items in
    let place = c.in_ok-place.place in
    let x = c.args.version.now in
    let was = c.index_mut.result.now in
    let put = subst (λ (vs : List Version). IsReordered (vs ++ x ∷ []) (all_of (set made place (was ++ x ∷ [])))) (c.in_ok-place.ensures).same
    (subst (λ (vs : List Version). IsReordered (all_of made ++ x ∷ []) (all_of (set made place (vs ++ x ∷ [])))) (sym c.index_mut.ensures.value) (put_at made place was x (c.in_ok-place.ensures).ok)) in
    on_ok_weaker c.put.result (λ e. subst (λ (vs : List Version). IsReordered (all_of c.args.made.now.items ++ x ∷ []) (all_of (set made place vs))) (sym e) put) c.put.ensures.ok
