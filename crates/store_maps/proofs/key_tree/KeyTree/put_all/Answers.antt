use Rattle.std.proofs.Common.{◌∙◌, List, [], sym, ap, subst, Option}
use Rattle.std.specs.Prelude.{unwrap_or}
use Rattle.ring_versions.specs.declared.version.Version.{Version}
use Rattle.ring_versions.specs.Versions.{IsApart}
use Rattle.store_maps.specs.Places.{value_in}
use Rattle.store_maps.proofs.EntriesLeft.{found, Putting, putting_none, putting_more}
use Rattle.std.specs.Ordering.{nat_cmp}
use Rattle.store_maps.specs.Entries.{entries_of, left_of}
use Rattle.store_maps.specs.Sorted.{PutsAt}
use Rattle.store_maps.proofs.key_tree.KeyTree.put_all.Goals as goal

pub keys-init : goal.keys-init
keys-init c = subst (Putting c.args.other.now c.args.self.now c.args.self.now) (sym (ap left_of c.into_iter-key-iterator.ensures.into_iter_gives ∙ c.walk-key-items.ensures)) (putting_none c.args.other.now c.args.self.now)

pub put-requires : goal.put-requires
put-requires c =
    let start = ap left_of c.into_iter-key-iterator.ensures.into_iter_gives ∙ c.walk-key-items.ensures in
    let at = found (entries_of c.args.other.now.entries) c.keys.yielded c.into_iter-key-iterator.result c.keys.key-iterator c.next.new.self c.next.result (c.in-Some.key, c.in-Some.versions) c.keys.yielded_by c.in-Some.is c.next.ensures.steps start c.args.other.now.order in
    let was = ap (λ (o : Option (List Version)). unwrap_or o []) at in
    subst IsApart (was ∙ sym (c.in_ok-try_copy.ensures).same) (c.args.other.now.apart c.in-Some.key.now)

pub keys-preserved : goal.keys-preserved
keys-preserved c =
    let start = ap left_of c.into_iter-key-iterator.ensures.into_iter_gives ∙ c.walk-key-items.ensures in
    let at = found (entries_of c.args.other.now.entries) c.keys.yielded c.into_iter-key-iterator.result c.keys.key-iterator c.next.new.self c.next.result (c.in-Some.key, c.in-Some.versions) c.keys.yielded_by c.in-Some.is c.next.ensures.steps start c.args.other.now.order in
    let same = subst (PutsAt nat_cmp (entries_of c.keys.self.entries) (entries_of c.put.new.self.entries) c.in-Some.key.now) (c.in_ok-try_copy.ensures).same (c.in_ok-put.ensures).ok in
    putting_more c.args.other.now c.args.self.now c.keys.self c.put.new.self (left_of c.keys.key-iterator) (left_of c.next.new.self) c.in-Some.key.now c.in-Some.versions.now (c.in-Some.ensures).steps at same c.keys.invariant

pub returns-clause-ok : goal.returns-clause-ok
returns-clause-ok c k = c.keys.invariant.done k (ap (λ es. value_in es k) (c.in-None.ensures).steps.0)

pub returns-in_err-put-clause-others : goal.returns-in_err-put-clause-others
returns-in_err-put-clause-others c k none = (c.in_err-put.ensures).err k ∙ c.keys.invariant.others k none
