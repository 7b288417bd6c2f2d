use Rattle.std.proofs.Common.{◌∙◌, ◌∷◌, ◌++◌, [], List, sym, ap, subst}
use Rattle.std.proofs.lemmas.Result.{on_ok_weaker}
use Rattle.ring_versions.specs.Chunks.{all_of}
use Rattle.ring_versions.specs.Parts.{IsFresh, IsReordered}
use Rattle.ring_versions.specs.Shared.{looked_at, all_left}
use Rattle.ring_versions.specs.Versions.{IsIn}
use Rattle.ring_versions.specs.declared.version.Version.{Version}
use Rattle.ring_versions.proofs.Merging.{fresh_all}
use Rattle.ring_versions.proofs.Owning.{none_covered}
use Rattle.ring_versions.proofs.Reordered.{others_more}
use Rattle.ring_versions.proofs.left.keep.Goals as goal

pub returns-then-is_beyond-clause-ok : goal.returns-then-is_beyond-clause-ok
returns-then-is_beyond-clause-ok c =
    let fresh = looked_at c.args.fresh in
    let chunk = c.args.chunk.now in
    let none = none_covered chunk fresh c.args.top.now (c.is_beyond.ensures c.if-is_beyond.true) c.requires.top in
    on_ok_weaker c.keep_all.result (λ all. (chunk, fresh_all fresh chunk c.requires.apart none, all)) c.keep_all.ensures.ok

pub with-requires : goal.with-requires
with-requires c = λ v h. subst (λ (vs : List Version). IsIn v vs) c.versions.ensures ((c.in_ok-versions.ensures).ok.drawn v h)

pub returns-in_ok-push-clause-ok : goal.returns-in_ok-push-clause-ok
returns-in_ok-push-clause-ok c =
    let fresh = looked_at c.args.fresh in
    let left = c.args.left.now in
    let out = c.in_ok-versions.versions.items in
    let items = (c.in_ok-push.ensures).items ∙ ap (λ (vs : List Version). left.made.items ++ vs ∷ []) (c.in_ok-with.ensures).ok in (
      out,
      subst (λ (vs : List Version). IsFresh fresh vs out) (c.versions.ensures ∙ c.part-part.ensures) (c.in_ok-versions.ensures).ok,
      subst (λ (cs : List (List Version)). IsReordered (all_left left ++ out) (all_of left.kept.items ++ all_of cs)) (sym items) (others_more left.kept.items left.made.items out),
    )
