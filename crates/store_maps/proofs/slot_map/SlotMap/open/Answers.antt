use Rattle.std.proofs.Common.{◌≡◌, ◌∙◌, cond, is_ok, insert, length, refl, sym, ap, subst, None, arith}
use Rattle.std.specs.Ordering.{nat_cmp}
use Rattle.store_maps.specs.Chunks.{held_of, place_in, AreNarrow}
use Rattle.store_maps.specs.Places.{value_in}
use Rattle.store_maps.specs.Slots.{held_for, has_place_for}
use Rattle.store_maps.specs.Sorted.{Ascends, GoesAt, IsThere}
use Rattle.store_maps.proofs.Chunks.{each, narrow_put}
use Rattle.store_maps.proofs.OneAnswer.{either}
use Rattle.store_maps.proofs.Sorted.{number_order, at_most, read_missing, put_in, there_in, order_in}
use Rattle.store_maps.proofs.slot_map.SlotMap.open.Goals as goal

pub insert-requires : goal.insert-requires
insert-requires c =
    let less = at_most nat_cmp c.args.chunk c.as_slice.result.now c.in-Err.place (c.in-Err.ensures).missing in
    let all = ap length (c.as_slice.ensures.value ∙ sym c.lengthen.ensures.same) in
    let long = c.lengthen.new.list.ok.0 in omega arith

pub invariant_of-self-in-Err : goal.invariant_of-self-in-Err
invariant_of-self-in-Err c =
    let a = c.args.self.now in
    let es = a.chunks.items in
    let fs = insert es c.in-Err.place (c.args.chunk, c.new.result) in
    let b = is_ok c.insert.result in
    let goes = subst (λ xs. GoesAt nat_cmp c.args.chunk xs c.in-Err.place) c.as_slice.ensures.value (c.in-Err.ensures).missing in
    let is : c.insert.new.self.items ≡ cond b fs es = c.insert.ensures.items ∙ ap (λ xs. cond b (insert xs c.in-Err.place (c.args.chunk, c.new.result)) xs) c.lengthen.ensures.same in
    let put = put_in number_order c.args.chunk c.new.result es c.in-Err.place goes in
    record {
      order = subst (Ascends nat_cmp) (sym is) (either (Ascends nat_cmp) b fs es (order_in number_order c.args.chunk c.new.result es c.in-Err.place a.order goes) a.order);
      narrow = subst AreNarrow (sym is) (either AreNarrow b fs es (narrow_put es fs c.args.chunk None c.new.result (read_missing number_order c.args.chunk es c.in-Err.place a.order goes) put c.requires a.narrow) a.narrow);
      bare = a.bare;
    }

pub returns-in_ok-insert-in-Err-clause-same : goal.returns-in_ok-insert-in-Err-clause-same
unfolding held_for
returns-in_ok-insert-in-Err-clause-same c k =
    let a = c.args.self.now in
    let es = a.chunks.items in
    let fs = insert es c.in-Err.place (c.args.chunk, c.new.result) in
    let goes = subst (λ xs. GoesAt nat_cmp c.args.chunk xs c.in-Err.place) c.as_slice.ensures.value (c.in-Err.ensures).missing in
    let is : c.insert.new.self.items ≡ fs = (c.in_ok-insert-in-Err.ensures).items ∙ ap (λ xs. insert xs c.in-Err.place (c.args.chunk, c.new.result)) c.lengthen.ensures.same in
    ap (λ xs. held_of (value_in xs k.chunk) k.number) is
    ∙ each es fs c.args.chunk None c.new.result (read_missing number_order c.args.chunk es c.in-Err.place a.order goes) (put_in number_order c.args.chunk c.new.result es c.in-Err.place goes)
    (λ d o p. held_of p k.number ≡ held_of o k.number) (c.new.ensures.versions k.number) (λ d ne o. refl) k.chunk

pub returns-in_ok-insert-in-Err-clause-places : goal.returns-in_ok-insert-in-Err-clause-places
unfolding has_place_for
returns-in_ok-insert-in-Err-clause-places c k =
    let a = c.args.self.now in
    let es = a.chunks.items in
    let fs = insert es c.in-Err.place (c.args.chunk, c.new.result) in
    let goes = subst (λ xs. GoesAt nat_cmp c.args.chunk xs c.in-Err.place) c.as_slice.ensures.value (c.in-Err.ensures).missing in
    let is : c.insert.new.self.items ≡ fs = (c.in_ok-insert-in-Err.ensures).items ∙ ap (λ xs. insert xs c.in-Err.place (c.args.chunk, c.new.result)) c.lengthen.ensures.same in
    ap (λ xs. place_in (value_in xs k.chunk) k.number) is
    ∙ each es fs c.args.chunk None c.new.result (read_missing number_order c.args.chunk es c.in-Err.place a.order goes) (put_in number_order c.args.chunk c.new.result es c.in-Err.place goes)
    (λ d o p. place_in p k.number ≡ place_in o k.number) (c.new.ensures.places k.number) (λ d ne o. refl) k.chunk

pub returns-in_ok-insert-in-Err-clause-at : goal.returns-in_ok-insert-in-Err-clause-at
returns-in_ok-insert-in-Err-clause-at c =
    let es = c.args.self.now.chunks.items in
    let goes = subst (λ xs. GoesAt nat_cmp c.args.chunk xs c.in-Err.place) c.as_slice.ensures.value (c.in-Err.ensures).missing in
    let is = (c.in_ok-insert-in-Err.ensures).items ∙ ap (λ xs. insert xs c.in-Err.place (c.args.chunk, c.new.result)) c.lengthen.ensures.same in
    subst (λ xs. IsThere nat_cmp c.args.chunk xs c.in-Err.place) (sym is) (there_in number_order c.args.chunk c.new.result es c.in-Err.place goes)
