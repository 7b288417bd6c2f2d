use Rattle.std.proofs.Common.{◌≡◌, ◌∙◌, ◌+◌, ◌*◌, ◌<◌, ◌≤◌, ℕ, List, [], inl, inr, refl, sym, ap, subst, arith}
use Rattle.std.proofs.Math.Path.{fun_ext}
use Rattle.ring_versions.specs.Versions.{IsMerge}
use Rattle.ring_versions.specs.declared.version.Version.{Version}
use Rattle.store_maps.specs.Chunks.{held_of}
use Rattle.store_maps.specs.Held.{held}
use Rattle.store_maps.specs.Ids.{id}
use Rattle.store_maps.specs.Merges.{AreFreshFor}
use Rattle.store_maps.specs.Slots.{held_for}
use Rattle.store_maps.proofs.Chunks.{above, no_place}
use Rattle.store_maps.proofs.OneAnswer.{on_ok, on_some, always_err}
use Rattle.ring_store.specs.Nodes.{at_nodes}
use Rattle.ring_store.specs.Seats.{seat_of}
use Rattle.ring_store.specs.Slots.{same_slot, at_slot}
use Rattle.ring_store.specs.Stores.{held_at, map_on}
use Rattle.ring_store.proofs.Spots.{spot_or, unless, slot_same, nothing_at, nothing_comes, held_here, same_spot, then_same, elsewhere, owner_comes, for_mirror, not_at}
use Rattle.ring_store.proofs.stores.Stores.+give_from.Goals as goal

pub returns-in-Some-clause-ok : goal.returns-in-Some-clause-ok
returns-in-Some-clause-ok t c =
    let f = held_for c.args.other.now in
    on_ok c.give_from.result _ _ (λ h x s k low. subst (λ (more : List Version). IsMerge (held_at c.args.self.now x s k) more (held_at c.give_from.new.self x s k))
    (rw c.in-Some.is (for_mirror c.args.node c.in-Some.mirror (at_slot c.args.slot f) x s k (λ e. unless (same_slot c.args.slot s) (f k) (λ y. above c.args.other.now k (let l = low e (slot_same c.args.slot s y) in omega arith)))))
    (h x s k (λ e u. omega arith))) c.give_from.ensures.ok

pub returns-in-None-clause-ok : goal.returns-in-None-clause-ok
returns-in-None-clause-ok t c x s k low = nothing_comes c.args.self.now x s k _ _ (rw c.in-None.is (nothing_at c.args.node.0 c.args.slot (held_for c.args.other.now) x s k (λ e u. above c.args.other.now k (let l = low e u in omega arith)))) refl

pub returns-then-is_empty-clause-ok : goal.returns-then-is_empty-clause-ok
returns-then-is_empty-clause-ok t c =
    let a = c.args.self.now in
    let b = c.give_from-then-is_empty.new.self in
    let slot = c.args.slot in
    let d = c.args.chunk in
    let f = held_for c.args.other.now in
    let less : d < 16 = omega arith in
    let none : (n : ℕ) → f (id d n) ≡ [] = λ n. sym (c.chunk-map.ensures.same n) ∙ no_place c.chunk-map.result.now n ((c.if-is_empty.ensures).0 refl n) in
    let kept = c.give_from-then-is_empty.ensures.others (16 * slot.partition + d) (seat_of c.args.node.0 slot) (inr (omega arith)) (on_some c.args.mirror _ _ (λ x ne e. ne (sym e)) c.requires.mirror) in
    on_ok c.give_from-then-is_empty.result _ _ (λ h. spot_or c.args.node.0 slot d (λ x s k. (x ≡ c.args.node.0 → s ≡ slot → d ≤ k.chunk) → IsMerge (held_at a x s k) (at_nodes c.args.node c.args.mirror (at_slot slot f) x s k) (held_at b x s k))
    (λ n low. nothing_comes a c.args.node.0 slot (id d n) _ _ (owner_comes c.args.node c.args.mirror slot f (id d n) ∙ none n) (held_here b c.args.node.0 slot d less n ∙ ap (λ o. held_of o n) kept ∙ sym (held_here a c.args.node.0 slot d less n)))
    (λ x s k away low. h x s k (λ e u. (let l = low e u in let ne = away e u in omega arith)))) c.give_from-then-is_empty.ensures.ok

pub returns-in_err-give_from-clause-others : goal.returns-in_err-give_from-clause-others
returns-in_err-give_from-clause-others t c i u away apart = c.give_from-2.ensures.others i u (elim away [ inl ne ↦ inl ne | inr l ↦ inr (omega arith) ]) apart
    ∙ c.prepare_all.ensures.only.others i u (not_at away)

pub returns-in_err-give_from-clause-err : goal.returns-in_err-give_from-clause-err
returns-in_err-give_from-clause-err t c = always_err c.from_residual-in_err-give_from.result _ (then_same c.args.self.now c.prepare_all.new.self c.give_from-2.new.self (c.in_err-give_from.ensures).err
    (same_spot c.args.self.now c.prepare_all.new.self c.args.node.0 c.args.slot c.args.chunk (omega arith) c.prepare_all.ensures.only c.prepare_all.ensures.same))

pub returns-clause-others : goal.returns-clause-others
returns-clause-others t c i u away apart = c.settle_all.ensures.only.others i u (not_at away)
    ∙ c.give_from-2.ensures.others i u (elim away [ inl ne ↦ inl ne | inr l ↦ inr (omega arith) ]) apart ∙ c.prepare_all.ensures.only.others i u (not_at away)

pub returns-clause-ok : goal.returns-clause-ok
returns-clause-ok t c =
    let a = c.args.self.now in
    let mid = c.prepare_all.new.self in
    let late = c.give_from-2.new.self in
    let b = c.settle_all.new.self in
    let node = c.args.node.0 in
    let slot = c.args.slot in
    let d = c.args.chunk in
    let row = 16 * slot.partition + d in
    let seat = seat_of node slot in
    let f = held_for c.args.other.now in
    let map = c.chunk-map.result.now in
    let less : d < 16 = omega arith in
    let kept = c.give_from-2.ensures.others row seat (inr (omega arith)) (on_some c.args.mirror _ _ (λ x ne e. ne (sym e)) c.requires.mirror) in
    let reads : held_of (map_on a row seat) ≡ held_of (map_on late row seat) = fun_ext (λ n. sym (ap (λ o. held_of o n) kept ∙ c.prepare_all.ensures.same n)) in
    let fresh = subst (λ (was : ℕ → List Version). AreFreshFor was (held map) c.in_ok-fresh.fresh) reads (c.in_ok-fresh.ensures).ok in
    spot_or node slot d (λ x s k. (x ≡ node → s ≡ slot → d ≤ k.chunk) → IsMerge (held_at a x s k) (at_nodes c.args.node c.args.mirror (at_slot slot f) x s k) (held_at b x s k))
    (λ n low. rw (held_here a node slot d less n, held_here b node slot d less n, owner_comes c.args.node c.args.mirror slot f (id d n), ← c.chunk-map.ensures.same n, ap (λ (was : ℕ → List Version). was n) reads) (c.settle_all.ensures.merged (held map) fresh n))
    (λ x s k away low. rw (elsewhere late b node slot d less c.settle_all.ensures.only x s k away, ← same_spot a mid node slot d less c.prepare_all.ensures.only c.prepare_all.ensures.same x s k)
    ((c.in_ok-give_from.ensures).ok x s k (λ e u. (let l = low e u in let ne = away e u in omega arith))))
