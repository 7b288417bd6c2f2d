use Rattle.std.proofs.Common.{◌≡◌, ◌∙◌, List, [], ◌++◌, sym, ap, subst}
use Rattle.std.specs.Vec.{vec_len}
use Rattle.std.proofs.lemmas.Result.{IfOk-weaker}
use Rattle.ring_versions.specs.Chunks.{all_of}
use Rattle.ring_versions.specs.Parts.{IsFresh, IsReordered}
use Rattle.ring_versions.specs.Shared.{all_left}
use Rattle.ring_versions.specs.Versions.{IsMerge}
use Rattle.ring_versions.specs.declared.left.Left.{Left}
use Rattle.ring_versions.specs.declared.version.Version.{Version}
use Rattle.ring_versions.proofs.Members.{empty}
use Rattle.ring_versions.proofs.Merging.{fresh_as, fresh_reordered, merge_left, merge_others}
use Rattle.ring_versions.proofs.Raised.{join_left}
use Rattle.ring_versions.proofs.Reordered.{put_behind}
use Rattle.ring_versions.proofs.merge.merged_with_many.Goals as goal

pub returns-then-is_empty-2-clause-ok : goal.returns-then-is_empty-2-clause-ok
returns-then-is_empty-2-clause-ok c =
    let held = c.args.held.now in
    let others = c.args.others.now in
    let fresh = c.in_ok-fresh.fresh in
    let left = c.in_ok-left.left in
    let stay = fresh_as _ _ fresh held (all_left left) c.held.ensures.value c.chunks.ensures (c.in_ok-left.ensures).ok in
    let kept = empty left.kept.items (vec_len left.kept) c.is_empty.result left.kept.ok.0 c.is_empty.ensures c.if-is_empty.true in
    let made = empty left.made.items (vec_len left.made) c.is_empty-then-is_empty.result left.made.ok.0 c.is_empty-then-is_empty.ensures c.if-is_empty-2.true in
    let none : all_left left ≡ [] = ap (λ (cs : List (List Version)). all_of cs ++ all_of left.made.items) kept ∙ ap all_of made in
    let all = merge_others held others fresh c.try_copy.ensures.apart (fresh_reordered held others c.args.fresh.items fresh (c.in_ok-fresh.ensures).same c.requires.fresh) (subst (IsFresh fresh held) none stay) in
    IfOk-weaker c.try_copy.result (λ s. s ≡ others) (IsMerge held others) (λ s e. subst (IsMerge held others) (sym e) all) c.try_copy.ensures.same

module _ (held fresh a b c : List Version) (left : Left) (more : List (List Version)) (front : a ≡ fresh) (behind : c ≡ fresh) (k : IsFresh a b (all_left left)) (all : b ≡ held) (r : IsReordered (all_of left.made.items ++ c) (all_of more)) where
  stay : IsFresh fresh held (all_left left)
  stay = fresh_as a b fresh held (all_left left) front all k

  -- the fresh ones are put behind those left
  put : IsReordered (all_left left ++ fresh) (all_of left.kept.items ++ all_of more)
  put = put_behind (all_of left.kept.items) (all_of left.made.items) fresh (all_of more) (subst (λ (vs : List Version). IsReordered (all_of left.made.items ++ vs) (all_of more)) behind r)

  merged : (others was : List Version) → IsReordered was fresh → IsFresh held others was → IsMerge held others (all_of left.kept.items ++ all_of more)
  merged others was same f = merge_left held others fresh (all_left left) (all_of left.kept.items ++ all_of more) (fresh_reordered held others was fresh same f) stay put

pub of_left-requires-clause-apart : goal.of_left-requires-clause-apart
of_left-requires-clause-apart c = (merged c.args.held.now c.in_ok-fresh.fresh _ _ _ c.in_ok-left.left c.put_all.new.made.items c.held.ensures.value c.held-2.ensures.value (c.in_ok-left.ensures).ok c.chunks.ensures (c.in_ok-put_all.ensures).ok c.args.others.now c.args.fresh.items (c.in_ok-fresh.ensures).same c.requires.fresh).apart

pub of_left-requires-clause-join : goal.of_left-requires-clause-join
of_left-requires-clause-join c =
    let left = c.in_ok-left.left in
    let more = c.put_all.new.made.items in
    let k = stay c.args.held.now c.in_ok-fresh.fresh _ _ _ left more c.held.ensures.value c.held-2.ensures.value (c.in_ok-left.ensures).ok c.chunks.ensures (c.in_ok-put_all.ensures).ok in
    let r = put c.args.held.now c.in_ok-fresh.fresh _ _ _ left more c.held.ensures.value c.held-2.ensures.value (c.in_ok-left.ensures).ok c.chunks.ensures (c.in_ok-put_all.ensures).ok in
    join_left c.join-2.result.now c.in_ok-top.top c.in_ok-join.field-0 c.args.held.now c.in_ok-fresh.fresh (all_left left) (all_of left.kept.items ++ all_of more) k r c.join-2.ensures (c.in_ok-top.ensures).ok (c.in_ok-join.ensures).counters

pub returns-clause-ok : goal.returns-clause-ok
returns-clause-ok c =
    let held = c.args.held.now in
    let others = c.args.others.now in
    let left = c.in_ok-left.left in
    let more = c.put_all.new.made.items in
    let all = merged held c.in_ok-fresh.fresh _ _ _ left more c.held.ensures.value c.held-2.ensures.value (c.in_ok-left.ensures).ok c.chunks.ensures (c.in_ok-put_all.ensures).ok others c.args.fresh.items (c.in_ok-fresh.ensures).same c.requires.fresh in
    IfOk-weaker c.of_left.result (λ s. s ≡ all_of left.kept.items ++ all_of more) (IsMerge held others) (λ s e. subst (IsMerge held others) (sym e) all) c.of_left.ensures.same
