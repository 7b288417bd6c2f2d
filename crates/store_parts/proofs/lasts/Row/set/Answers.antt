use Rattle.std.proofs.Common.{◌≡◌, ◌∙◌, ℕ, List, Some, cond, insert, is_ok, length, inl, inr, sym, ap, subst, arith}
use Rattle.std.specs.Ordering.{nat_cmp}
use Rattle.std.specs.Prelude.{◌==◌}
use Rattle.std.proofs.lemmas.Bool.Decides.{eqb_tells}
use Rattle.store_maps.specs.Sorted.{value_by, Ascends, IsThere, GoesAt, PutsAt}
use Rattle.store_maps.proofs.OneAnswer.{either}
use Rattle.store_maps.proofs.Sorted.{number_order, within, at_most, written, order_written, put_in, order_in}
use Rattle.store_parts.proofs.lasts.Row.set.Goals as goal

-- what is read after a put
reads : (es fs : List (ℕ × ℕ)) (writer put : ℕ) → PutsAt nat_cmp es fs writer put → (w : ℕ) → value_by nat_cmp fs w ≡ cond (w == writer) (Some put) (value_by nat_cmp es w)
reads es fs writer put p w = elim (eqb_tells w writer) [ inl t ↦ rw t.0 (rw t.1 p.here) | inr t ↦ rw t.0 (p.others w t.1) ]

pub index_mut-requires : goal.index_mut-requires
index_mut-requires c =
    let less = within nat_cmp c.args.writer c.as_slice.result.now c.in-Ok.place (c.in-Ok.ensures).found in
    let all = c.as_slice.ensures.len in omega arith

pub invariant_of-self : goal.invariant_of-self
invariant_of-self c = record { order = order_written number_order c.args.self.now.puts.items c.in-Ok.place c.index_mut.result.now c.args.put c.index_mut.ensures.value c.args.self.now.order }

pub insert-requires : goal.insert-requires
insert-requires c =
    let less = at_most nat_cmp c.args.writer c.as_slice.result.now c.in-Err.place (c.in-Err.ensures).missing in
    let all = ap length (c.as_slice.ensures.value ∙ sym c.lengthen.ensures.same) in
    let long = c.lengthen.new.list.ok.0 in omega arith

pub invariant_of-self-in-Err : goal.invariant_of-self-in-Err
invariant_of-self-in-Err c =
    let es = c.args.self.now.puts.items in
    let fs = insert es c.in-Err.place (c.args.writer, c.args.put) in
    let goes = subst (λ xs. GoesAt nat_cmp c.args.writer xs c.in-Err.place) c.as_slice.ensures.value (c.in-Err.ensures).missing in
    let is = c.insert.ensures.items ∙ ap (λ xs. cond (is_ok c.insert.result) (insert xs c.in-Err.place (c.args.writer, c.args.put)) xs) c.lengthen.ensures.same in
    record { order = subst (Ascends nat_cmp) (sym is) (either (Ascends nat_cmp) (is_ok c.insert.result) fs es (order_in number_order c.args.writer c.args.put es c.in-Err.place c.args.self.now.order goes) c.args.self.now.order) }

pub returns-in-Ok-clause-set : goal.returns-in-Ok-clause-set
returns-in-Ok-clause-set c =
    let es = c.args.self.now.puts.items in
    let there = subst (λ xs. IsThere nat_cmp c.args.writer xs c.in-Ok.place) c.as_slice.ensures.value (c.in-Ok.ensures).found in
    reads es _ c.args.writer c.args.put (written number_order c.args.writer es c.in-Ok.place c.index_mut.result.now c.args.put there c.index_mut.ensures.value)

pub returns-in_ok-insert-in-Err-clause-set : goal.returns-in_ok-insert-in-Err-clause-set
returns-in_ok-insert-in-Err-clause-set c =
    let es = c.args.self.now.puts.items in
    let goes = subst (λ xs. GoesAt nat_cmp c.args.writer xs c.in-Err.place) c.as_slice.ensures.value (c.in-Err.ensures).missing in
    let is = (c.in_ok-insert-in-Err.ensures).items ∙ ap (λ xs. insert xs c.in-Err.place (c.args.writer, c.args.put)) c.lengthen.ensures.same in
    reads es _ c.args.writer c.args.put (subst (λ xs. PutsAt nat_cmp es xs c.args.writer c.args.put) (sym is) (put_in number_order c.args.writer c.args.put es c.in-Err.place goes))
