use Rattle.std.proofs.Common.{◌≡◌, ◌∙◌, refl, sym, ap, subst, Some, arith}
use Rattle.std.specs.Prelude.{IsSome, is_some}
use Rattle.store_maps.specs.Places.{value_in}
use Rattle.std.specs.Ordering.{nat_cmp}
use Rattle.store_maps.specs.Entries.{entries_of}
use Rattle.store_maps.specs.Sorted.{Ascends, GoesAt, IsThere, PutsAt}
use Rattle.store_maps.proofs.Sorted.{number_order, within, order_written, puts_at}
use Rattle.store_maps.proofs.Settled.{few_at, few_put, few_none, fits}
use Rattle.store_maps.proofs.entries.Entries.absorb.Goals as goal

pub index_mut-requires : goal.index_mut-requires
index_mut-requires c =
    let less = within nat_cmp c.args.key c.as_slice.result.now c.in-Ok.place (c.in-Ok.ensures).found in
    let all = c.as_slice.ensures.len in omega arith

pub absorb-requires : goal.absorb-requires
absorb-requires c =
    let key = c.args.key in
    let m = entries_of c.args.self.now in
    let is : m ≡ c.in-Few.list.items = ap entries_of c.in-Few.is in
    let there = subst (λ fs. IsThere nat_cmp key fs c.in-Ok.place) c.as_slice.ensures.value (c.in-Ok.ensures).found in
    let e = c.index_mut.result.now in
    fits key m e.1 c.args.fresh (few_at key m c.in-Few.list.items is c.in-Ok.place e there c.index_mut.ensures.value) c.requires.fits

pub returns-in-Ok-clause-order : goal.returns-in-Ok-clause-order
returns-in-Ok-clause-order c =
    let es = c.in-Few.list.items in
    let order = subst (Ascends nat_cmp) (ap entries_of c.in-Few.is) c.requires.order in
    order_written number_order es c.in-Ok.place c.index_mut.result.now c.absorb.new.self c.index_mut.ensures.value order

pub returns-in-Ok-clause-taken : goal.returns-in-Ok-clause-taken
returns-in-Ok-clause-taken c =
    let key = c.args.key in
    let m = entries_of c.args.self.now in
    let is : m ≡ c.in-Few.list.items = ap entries_of c.in-Few.is in
    let there = subst (λ fs. IsThere nat_cmp key fs c.in-Ok.place) c.as_slice.ensures.value (c.in-Ok.ensures).found in
    let e = c.index_mut.result.now in
    record {
      before = e.1;
      after = c.absorb.new.self;
      at = few_at key m c.in-Few.list.items is c.in-Ok.place e there c.index_mut.ensures.value;
      put = few_put key m c.in-Few.list.items is c.in-Ok.place e there c.index_mut.ensures.value c.absorb.new.self;
      became = c.absorb.ensures;
    }

pub absorb-requires-in-Some : goal.absorb-requires-in-Some
absorb-requires-in-Some c =
    let key = c.args.key in
    let m = entries_of c.args.self.now in
    let is : m ≡ c.in-Many.tree.entries = ap entries_of c.in-Many.is in
    let at : value_in m key ≡ Some c.in-Some.versions.now = ap (λ es. value_in es key) is ∙ sym (c.in-Some.ensures).value in
    fits key m c.in-Some.versions.now c.args.fresh at c.requires.fits

pub returns-in-Some-clause-order : goal.returns-in-Some-clause-order
returns-in-Some-clause-order c = (c.get_mut.follows.holds c.absorb-in-Some.new.self).4

pub returns-in-Some-clause-taken : goal.returns-in-Some-clause-taken
returns-in-Some-clause-taken c =
    let is : entries_of c.args.self.now ≡ c.in-Many.tree.entries = ap entries_of c.in-Many.is in
    let value = (c.in-Some.ensures).value in
    let w = c.absorb-in-Some.new.self in
    let n = c.get_mut.follows.lender w in
    record {
      before = c.in-Some.versions.now;
      after = w;
      at = ap (λ es. value_in es c.args.key) is ∙ sym value;
      put = subst (λ es. PutsAt nat_cmp es n.entries c.args.key w) (sym is) (puts_at number_order c.args.key c.in-Many.tree n w ((c.get_mut.follows.holds w).3 (subst IsSome value refl)));
      became = c.absorb-in-Some.ensures;
    }

pub returns-in-Err-clause-taken : goal.returns-in-Err-clause-taken
returns-in-Err-clause-taken c =
    let m = entries_of c.args.self.now in
    let is : m ≡ c.in-Few.list.items = ap entries_of c.in-Few.is in
    let goes = subst (λ es. GoesAt nat_cmp c.args.key es c.in-Err.field-0) c.as_slice.ensures.value (c.in-Err.ensures).missing in
    let none = few_none c.args.key m c.in-Few.list.items c.in-Err.field-0 is c.requires.order goes in
    absurd (let there = sym c.requires.there ∙ ap is_some none in cc)
