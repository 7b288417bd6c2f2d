use Rattle.std.proofs.Common.{ap, ◌≡◌, ◌∙◌, inl, inr, true, sym, subst}
use Rattle.store_maps.specs.Held.{has_room}
use Rattle.store_maps.specs.Places.{value_in}
use Rattle.store_maps.specs.Entries.{entries_of, left_of}
use Rattle.store_maps.proofs.EntriesLeft.{found}
use Rattle.store_maps.proofs.WholeMaps.{Preparing, preparing_none, preparing_same, preparing_more, more_places, prepared_fresh, prepared_ready}
use Rattle.store_maps.proofs.key_map.KeyMap.prepare_tree.Goals as goal

pub keys-init : goal.keys-init
keys-init c =
    subst (Preparing c.args.self.now c.args.self.now c.args.other.now (record { map = c.new.result })) (sym (ap left_of c.into_iter-key-iterator.ensures.into_iter_gives ∙ c.walk-key-items.ensures))
    (preparing_none c.args.self.now c.args.other.now (record { map = c.new.result }) (λ k. ap (λ es. value_in es k) c.new.ensures.empty))

pub keys-preserved-in-Continue-branch-2 : goal.keys-preserved-in-Continue-branch-2
keys-preserved-in-Continue-branch-2 c =
    let start = ap left_of c.into_iter-key-iterator.ensures.into_iter_gives ∙ c.walk-key-items.ensures in
    let at = found (entries_of c.args.other.now.entries) c.keys.yielded c.into_iter-key-iterator.result c.keys.key-iterator c.next.new.self c.next.result (c.in-Some.key, c.in-Some.versions) c.keys.yielded_by c.in-Some.is c.next.ensures.steps start c.args.other.now.order in
    let x = c.in_ok-fresh.fresh in
    let p = c.in_ok-fresh.ensures in
    let room : has_room c.prepare_new.new.self c.in-Some.key.now ≡ true = elim p.room [ inl none ↦ absurd (let empty = c.is_empty.ensures.1 none in cc) | inr room ↦ room ] in
    preparing_more c.args.self.now c.keys.self c.prepare_new.new.self c.args.other.now c.keys.keys (left_of c.keys.key-iterator) (left_of c.next.new.self) c.in-Some.key.now c.in-Some.versions.now x (c.in-Some.ensures).steps at p.same p.stays p.rooms p.only p.ok p.made c.keys.invariant c.put.new.self room (c.in_ok-put.ensures).ok

pub keys-preserved : goal.keys-preserved
keys-preserved c =
    let start = ap left_of c.into_iter-key-iterator.ensures.into_iter_gives ∙ c.walk-key-items.ensures in
    let at = found (entries_of c.args.other.now.entries) c.keys.yielded c.into_iter-key-iterator.result c.keys.key-iterator c.next.new.self c.next.result (c.in-Some.key, c.in-Some.versions) c.keys.yielded_by c.in-Some.is c.next.ensures.steps start c.args.other.now.order in
    let x = c.in_ok-fresh.fresh in
    let p = c.in_ok-fresh.ensures in
    preparing_same c.args.self.now c.keys.self c.prepare_new.new.self c.args.other.now c.keys.keys (left_of c.keys.key-iterator) (left_of c.next.new.self) c.in-Some.key.now c.in-Some.versions.now x (c.in-Some.ensures).steps at p.same p.stays p.rooms p.only p.ok p.made c.keys.invariant (c.is_empty.ensures.0 c.if-not-is_empty.false)

pub returns-clause-ok : goal.returns-clause-ok
returns-clause-ok c = prepared_fresh c.args.self.now c.keys.self c.args.other.now c.keys.keys (left_of c.keys.key-iterator) (c.in-None.ensures).steps.0 c.keys.invariant

pub returns-clause-made : goal.returns-clause-made
returns-clause-made c k = c.keys.invariant.made k (ap (λ es. value_in es k) (c.in-None.ensures).steps.0)

pub returns-clause-ready : goal.returns-clause-ready
returns-clause-ready c = prepared_ready c.args.self.now c.keys.self c.args.other.now c.keys.keys (left_of c.keys.key-iterator) c.keys.invariant

pub returns-in_err-fresh-clause-only : goal.returns-in_err-fresh-clause-only
returns-in_err-fresh-clause-only c =
    let start = ap left_of c.into_iter-key-iterator.ensures.into_iter_gives ∙ c.walk-key-items.ensures in
    let at = found (entries_of c.args.other.now.entries) c.keys.yielded c.into_iter-key-iterator.result c.keys.key-iterator c.next.new.self c.next.result (c.in-Some.key, c.in-Some.versions) c.keys.yielded_by c.in-Some.is c.next.ensures.steps start c.args.other.now.order in
    more_places c.args.self.now c.keys.self c.prepare_new.new.self c.args.other.now c.in-Some.key.now c.in-Some.versions.now at c.prepare_new.ensures.only c.keys.invariant.only

pub returns-in_err-put-clause-only : goal.returns-in_err-put-clause-only
returns-in_err-put-clause-only c =
    let start = ap left_of c.into_iter-key-iterator.ensures.into_iter_gives ∙ c.walk-key-items.ensures in
    let at = found (entries_of c.args.other.now.entries) c.keys.yielded c.into_iter-key-iterator.result c.keys.key-iterator c.next.new.self c.next.result (c.in-Some.key, c.in-Some.versions) c.keys.yielded_by c.in-Some.is c.next.ensures.steps start c.args.other.now.order in
    more_places c.args.self.now c.keys.self c.prepare_new.new.self c.args.other.now c.in-Some.key.now c.in-Some.versions.now at c.prepare_new.ensures.only c.keys.invariant.only
