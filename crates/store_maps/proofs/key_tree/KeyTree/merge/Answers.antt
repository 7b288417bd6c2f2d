use Rattle.std.proofs.Common.{◌≡◌, ◌∙◌, ℕ, List, [], inl, sym, ap, subst, Option, Some, None, Result}
use Rattle.std.specs.Prelude.{unwrap_or, IfSome, IfNone}
use Rattle.ring_versions.specs.Versions.{IsMerge}
use Rattle.ring_versions.specs.declared.version.Version.{Version}
use Rattle.store_maps.specs.declared.entries.Entries.{Entries}
use Rattle.std.specs.Ordering.{nat_cmp}
use Rattle.store_maps.specs.Entries.{entries_of}
use Rattle.store_maps.specs.Sorted.{PutsAt}
use Rattle.store_maps.specs.Places.{held_in, AreApart}
use Rattle.store_maps.specs.Taken.{MergesIn}
use Rattle.store_maps.proofs.MergesInTurn.{merge_first}
use Rattle.store_maps.proofs.OneAnswer.{on_ok, always_err}
use Rattle.store_maps.proofs.Puts.{merged_put}
use Rattle.store_maps.proofs.Settled.{merged_apart, merged_all, merged_same, merged_places}
use Rattle.store_maps.proofs.key_tree.KeyTree.merge.Goals as goal

apart_of : {A E : Type 0} (key : ℕ) (m n : Entries) (more : List Version) (o : Option (Result A E)) → IfSome o (λ r. MergesIn r (entries_of m) (entries_of n) key more) → IfNone o (n ≡ m) → AreApart (entries_of m) → AreApart (entries_of n)
apart_of key m n more None some same apart = subst (λ a. AreApart (entries_of a)) (sym same) apart
apart_of key m n more (Some r) some same apart = merged_apart key (entries_of m) (entries_of n) more r some apart

pub invariant_of-self-clause-apart : goal.invariant_of-self-clause-apart
invariant_of-self-clause-apart c = apart_of c.args.key c.args.self.now.entries c.merge.new.self c.args.more.now c.merge.result c.merge.ensures.some c.merge.ensures.same c.args.self.now.apart

pub returns-in-Some-clause-ok : goal.returns-in-Some-clause-ok
returns-in-Some-clause-ok c = merged_all _ _ _ _ _ (c.in-Some.ensures).some c.args.self.now.apart

pub returns-in-Some-clause-err : goal.returns-in-Some-clause-err
returns-in-Some-clause-err c = merged_same _ _ _ _ _ (c.in-Some.ensures).some

pub returns-in-Some-clause-stays : goal.returns-in-Some-clause-stays
returns-in-Some-clause-stays c = λ k h. merged_places _ _ _ _ _ (c.in-Some.ensures).some k ∙ h

pub returns-in-Some-clause-only : goal.returns-in-Some-clause-only
returns-in-Some-clause-only c = λ k h. inl (sym (merged_places _ _ _ _ _ (c.in-Some.ensures).some k) ∙ h)

pub returns-in-Some-clause-filled : goal.returns-in-Some-clause-filled
returns-in-Some-clause-filled c = λ k h. inl (sym (merged_places _ _ _ _ _ (c.in-Some.ensures).some k) ∙ h)

pub returns-in-Some-clause-places : goal.returns-in-Some-clause-places
returns-in-Some-clause-places c = always_err c.in-Some.merged _ (merged_places _ _ _ _ _ (c.in-Some.ensures).some)

pub returns-clause-ok : goal.returns-clause-ok
returns-clause-ok c =
    let w = c.in_ok-try_copy.field-0 in
    let m = entries_of c.args.self.now.entries in
    let n = entries_of c.put.new.self.entries in
    let more = c.args.more.now in
    let none : held_in m c.args.key ≡ [] = ap (λ (o : Option (List Version)). unwrap_or o []) (c.in_default.ensures).none in
    let first = subst (λ (new : List Version). IsMerge [] more new) (sym (c.in_ok-try_copy.ensures).same) (merge_first more c.is_empty.ensures.apart) in
    let merge = subst (λ (kept : List Version). IsMerge kept more w) (sym none) first in
    on_ok c.put.result _ _ (λ put. merged_put m n c.args.key w (subst (λ (a : Entries). PutsAt nat_cmp (entries_of a) n c.args.key w) (c.in_default.ensures).same put) more c.args.self.now.apart merge) c.put.ensures.ok
