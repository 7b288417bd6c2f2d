use Rattle.std.proofs.Common.{◌∙◌, ◌∷◌, ◌++◌, [], List, sym, ap, subst}
use Rattle.ring_versions.specs.Chunks.{all_of}
use Rattle.ring_versions.specs.Parts.{IsReordered}
use Rattle.ring_versions.specs.Shared.{all_left}
use Rattle.ring_versions.specs.declared.version.Version.{Version}
use Rattle.ring_versions.proofs.Reordered.{first_more, others_more}
use Rattle.ring_versions.proofs.left.keep_all.Goals as goal

pub returns-in_ok-push-clause-ok : goal.returns-in_ok-push-clause-ok
returns-in_ok-push-clause-ok c =
    let left = c.args.left.now in
    let chunk = c.args.chunk.now in
    let items = (c.in_ok-push.ensures).items ∙ ap (λ (vs : List Version). left.made.items ++ vs ∷ []) ((c.in_ok-try_copy.ensures).ok ∙ c.part.ensures) in
    subst (λ (cs : List (List Version)). IsReordered (all_left left ++ chunk) (all_of left.kept.items ++ all_of cs)) (sym items) (others_more left.kept.items left.made.items chunk)

pub returns-in_ok-push-2-clause-ok : goal.returns-in_ok-push-2-clause-ok
returns-in_ok-push-2-clause-ok c =
    let left = c.args.left.now in
    let chunk = c.args.chunk.now in
    let items = (c.in_ok-push-2.ensures).items ∙ ap (λ (vs : List Version). left.kept.items ++ vs ∷ []) (c.in_ok-try_copy-2.ensures).ok in
    subst (λ (cs : List (List Version)). IsReordered (all_left left ++ chunk) (all_of cs ++ all_of left.made.items)) (sym items) (first_more left.kept.items left.made.items chunk)
