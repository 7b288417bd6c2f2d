use Rattle.std.proofs.Common.{◌≡◌, ◌≢◌, ◌⊎◌, ◌∙◌, inl, inr, slice_set, true, [], refl, sym, subst, Some, arith}
use Rattle.std.specs.Ordering.{nat_cmp}
use Rattle.ring_versions.specs.Versions.{IsMerge}
use Rattle.store_maps.specs.Chunks.{held_of, place_in}
use Rattle.store_maps.specs.Merges.{at_key}
use Rattle.store_maps.specs.Places.{value_in}
use Rattle.store_maps.specs.Slots.{held_for, has_place_for}
use Rattle.store_maps.proofs.Chunks.{each_there, narrow_put, merged_key, nothing_key, put_there, was_there}
use Rattle.store_maps.proofs.OneAnswer.{on_ok, on_err}
use Rattle.store_maps.proofs.Sorted.{number_order, within, order_written}
use Rattle.store_maps.proofs.slot_map.SlotMap.merge.Goals as goal

pub returns-then-is_empty-clause-ok : goal.returns-then-is_empty-clause-ok
returns-then-is_empty-clause-ok c = nothing_key c.args.self.now c.args.key c.args.more.now (c.is_empty.ensures.value.0 c.if-is_empty.true)

pub index_mut-requires : goal.index_mut-requires
index_mut-requires c =
    let less = within nat_cmp c.args.key.chunk c.open.new.self.chunks.items c.in_ok-place.place (c.in_ok-place.ensures).at in
    let all = c.open.new.self.chunks.ok.0 in omega arith

pub invariant_of-self : goal.invariant_of-self
invariant_of-self c =
    let b = c.open.new.self in
    let es = b.chunks.items in
    let i = c.in_ok-place.place in
    let e = c.index_mut.result.now in
    let n = c.merge.new.self in
    let at = (c.in_ok-place.ensures).at in
    let value = c.index_mut.ensures.value in
    record {
      order = order_written number_order es i e n value b.order;
      narrow = narrow_put es (slice_set es i (e.0, n)) c.args.key.chunk (Some e.1) n (was_there c.args.key.chunk es i e n at value) (put_there c.args.key.chunk es i e n at value) c.requires b.narrow;
      bare = b.bare;
    }

pub returns-clause-ok : goal.returns-clause-ok
unfolding held_for has_place_for
returns-clause-ok c =
    let es = c.open.new.self.chunks.items in
    let e = c.index_mut.result.now in
    let n = c.merge.new.self in
    let fs = slice_set es c.in_ok-place.place (e.0, n) in
    let was = was_there c.args.key.chunk c.open.new.self.chunks.items c.in_ok-place.place c.index_mut.result.now c.merge.new.self (c.in_ok-place.ensures).at c.index_mut.ensures.value in
    let put = put_there c.args.key.chunk c.open.new.self.chunks.items c.in_ok-place.place c.index_mut.result.now c.merge.new.self (c.in_ok-place.ensures).at c.index_mut.ensures.value in
    let more = at_key c.args.key c.args.more.now in
    on_ok c.merge.result _ _ (λ h k. subst (λ old. IsMerge old (more k) (held_of (value_in fs k.chunk) k.number)) (c.open.ensures.same k) (merged_key es fs c.args.key e.1 n c.args.more.now was put h k)) c.merge.ensures.ok

pub returns-clause-err : goal.returns-clause-err
unfolding held_for has_place_for
returns-clause-err c =
    let all = each_there c.args.key.chunk c.open.new.self.chunks.items c.in_ok-place.place c.index_mut.result.now c.merge.new.self (c.in_ok-place.ensures).at c.index_mut.ensures.value in
    on_err c.merge.result _ _ (λ h k. all (λ d o p. held_of p k.number ≡ held_of o k.number) (h k.number) (λ d ne o. refl) k.chunk ∙ c.open.ensures.same k) c.merge.ensures.err

pub returns-clause-stays : goal.returns-clause-stays
unfolding held_for has_place_for
returns-clause-stays c =
    let all = each_there c.args.key.chunk c.open.new.self.chunks.items c.in_ok-place.place c.index_mut.result.now c.merge.new.self (c.in_ok-place.ensures).at c.index_mut.ensures.value in
    λ k h. all (λ d o p. place_in o k.number ≡ true → place_in p k.number ≡ true) (c.merge.ensures.stays k.number) (λ d ne o h. h) k.chunk (c.open.ensures.places k ∙ h)

pub returns-clause-filled : goal.returns-clause-filled
unfolding held_for has_place_for
returns-clause-filled c =
    let all = each_there c.args.key.chunk c.open.new.self.chunks.items c.in_ok-place.place c.index_mut.result.now c.merge.new.self (c.in_ok-place.ensures).at c.index_mut.ensures.value in
    λ k h. elim (all (λ d o p. place_in p k.number ≡ true → (place_in o k.number ≡ true) ⊎ (held_of p k.number ≢ [])) (c.merge.ensures.filled k.number) (λ d ne o h. inl h) k.chunk h) [
      | inl here ↦ inl (sym (c.open.ensures.places k) ∙ here)
      | inr some ↦ inr some
    ]

pub returns-clause-places : goal.returns-clause-places
unfolding held_for has_place_for
returns-clause-places c =
    let all = each_there c.args.key.chunk c.open.new.self.chunks.items c.in_ok-place.place c.index_mut.result.now c.merge.new.self (c.in_ok-place.ensures).at c.index_mut.ensures.value in
    on_err c.merge.result _ _ (λ h k. all (λ d o p. place_in p k.number ≡ place_in o k.number) (h k.number) (λ d ne o. refl) k.chunk ∙ c.open.ensures.places k) c.merge.ensures.places
