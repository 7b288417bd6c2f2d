use Rattle.std.proofs.Common.{◌≡◌, refl, sym, subst}
use Rattle.std.specs.Vec.{vec_len}
use Rattle.std.proofs.lemmas.Result.{IfOk-weaker}
use Rattle.ring_versions.specs.Parts.{IsFresh, IsReordered}
use Rattle.ring_versions.specs.Versions.{IsApart, IsMerge}
use Rattle.ring_versions.proofs.Members.{empty}
use Rattle.ring_versions.proofs.Merging.{fresh_as, merge, merge_reordered, merge_others}
use Rattle.ring_versions.proofs.merge.merged_with_few.Goals as goal

pub returns-then-is_empty-clause-ok : goal.returns-then-is_empty-clause-ok
returns-then-is_empty-clause-ok c =
    let held = c.args.held.now in
    let others = c.args.others.now in
    let fresh = c.args.fresh.items in
    let stay = c.in_ok-stay.stay in
    let left = fresh_as c.as_slice.result.now held fresh held stay.items c.as_slice.ensures.value refl (c.in_ok-stay.ensures).ok in
    let none = empty stay.items (vec_len stay) c.is_empty.result stay.ok.0 c.is_empty.ensures c.if-is_empty.true in
    let merged = merge_others held others fresh c.try_copy.ensures.apart c.requires.fresh (subst (IsFresh fresh held) none left) in
    IfOk-weaker c.try_copy.result (λ s. s ≡ others) (IsMerge held others) (λ s e. subst (IsMerge held others) (sym e) merged) c.try_copy.ensures.same

pub of_list-requires : goal.of_list-requires
of_list-requires c =
    let held = c.args.held.now in
    let fresh = c.args.fresh.items in
    let stay = c.in_ok-stay.stay.items in
    let left = fresh_as c.as_slice.result.now held fresh held stay c.as_slice.ensures.value refl (c.in_ok-stay.ensures).ok in
    subst IsApart (sym (c.in_ok-append.ensures).items) (merge held c.args.others.now fresh stay c.requires.fresh left).apart

pub returns-clause-ok : goal.returns-clause-ok
returns-clause-ok c =
    let held = c.args.held.now in
    let others = c.args.others.now in
    let list = c.append.new.self.items in
    let fresh = c.args.fresh.items in
    let stay = c.in_ok-stay.stay.items in
    let left = fresh_as c.as_slice.result.now held fresh held stay c.as_slice.ensures.value refl (c.in_ok-stay.ensures).ok in
    let all = subst (IsMerge held others) (sym (c.in_ok-append.ensures).items) (merge held others fresh stay c.requires.fresh left) in
    IfOk-weaker c.of_list.result (IsReordered list) (IsMerge held others) (λ s r. merge_reordered held others list s r all) c.of_list.ensures.same
