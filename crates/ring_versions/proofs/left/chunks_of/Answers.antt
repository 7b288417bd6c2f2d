use Rattle.std.proofs.Common.{◌≡◌, ◌∙◌, ◌++◌, List, refl, sym, ap}
use Rattle.std.proofs.lemmas.Iterator.Adapters.{YieldsList-from_vec}
use Rattle.std.proofs.lemmas.Iterator.Consumers.{YieldsList-end}
use Rattle.std.proofs.lemmas.List.Folds.{map_fixed}
use Rattle.ring_versions.specs.declared.version.Version.{Version}
use Rattle.ring_versions.specs.Chunks.{all_of}
use Rattle.ring_versions.proofs.Reordered.{all_of_both}
use Rattle.ring_versions.proofs.left.chunks_of.Goals as goal

pub returns-clause-ok : goal.returns-clause-ok
returns-clause-ok c =
    let left = c.args.left in
    let gives = c.into_iter-part-iterator.ensures.into_iter_gives in
    let yields = YieldsList-from_vec {s = c.into_iter-part-iterator.result} left.made.items gives.0 (gives.1 ∙ left.made.ok.0) in
    let end = YieldsList-end yields c.loop-part.yielded c.loop-part.part-iterator c.loop-part.yielded_by c.next.result c.next.new.self c.in-None.is c.next.ensures.steps in
    let all : c.loop-part.yielded ≡ left.made.items = sym (map_fixed (λ (y : List Version). y) c.loop-part.yielded (λ k d few. refl)) ∙ end.0 in
    ap all_of (c.loop-part.invariant ∙ ap (λ (ps : List (List Version)). left.kept.items ++ ps) all) ∙ all_of_both left.kept.items left.made.items
