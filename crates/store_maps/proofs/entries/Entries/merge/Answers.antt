use Rattle.std.proofs.Common.{◌≡◌, ◌∙◌, refl, sym, ap, subst, arith}
use Rattle.std.specs.Prelude.{IsSome}
use Rattle.store_maps.specs.Places.{value_in}
use Rattle.std.specs.Ordering.{nat_cmp}
use Rattle.store_maps.specs.Entries.{entries_of}
use Rattle.store_maps.specs.Sorted.{Ascends, GoesAt, IsThere, PutsAt}
use Rattle.store_maps.proofs.Sorted.{number_order, within, order_written, puts_at}
use Rattle.store_maps.proofs.Settled.{few_at, few_put, few_none}
use Rattle.store_maps.proofs.entries.Entries.merge.Goals as goal

pub index_mut-requires : goal.index_mut-requires
index_mut-requires c =
    let less = within nat_cmp c.args.key c.as_slice.result.now c.in-Ok.place (c.in-Ok.ensures).found in
    let all = c.as_slice.ensures.len in omega arith

pub returns-in-Ok-clause-order : goal.returns-in-Ok-clause-order
returns-in-Ok-clause-order c =
    let es = c.in-Few.list.items in
    let order = subst (Ascends nat_cmp) (ap entries_of c.in-Few.is) c.requires in
    order_written number_order es c.in-Ok.place c.index_mut.result.now c.merge.new.self c.index_mut.ensures.value order

pub returns-in-Ok-clause-some : goal.returns-in-Ok-clause-some
returns-in-Ok-clause-some c =
    let key = c.args.key in
    let m = entries_of c.args.self.now in
    let is : m ≡ c.in-Few.list.items = ap entries_of c.in-Few.is in
    let there = subst (λ fs. IsThere nat_cmp key fs c.in-Ok.place) c.as_slice.ensures.value (c.in-Ok.ensures).found in
    let e = c.index_mut.result.now in
    record {
      before = e.1;
      after = c.merge.new.self;
      at = few_at key m c.in-Few.list.items is c.in-Ok.place e there c.index_mut.ensures.value;
      put = few_put key m c.in-Few.list.items is c.in-Ok.place e there c.index_mut.ensures.value c.merge.new.self;
      became = (c.merge.ensures.ok, c.merge.ensures.err);
    }

pub returns-in_ok-get_mut-in-Many-clause-some : goal.returns-in_ok-get_mut-in-Many-clause-some
returns-in_ok-get_mut-in-Many-clause-some c =
    let is : entries_of c.args.self.now ≡ c.in-Many.tree.entries = ap entries_of c.in-Many.is in
    let value = (c.in_ok-get_mut-in-Many.ensures).value in
    let w = c.merge-in-Many.new.self in
    let n = c.get_mut.follows.lender w in
    record {
      before = c.in_ok-get_mut-in-Many.field-0.now;
      after = w;
      at = ap (λ es. value_in es c.args.key) is ∙ sym value;
      put = subst (λ es. PutsAt nat_cmp es n.entries c.args.key w) (sym is) (puts_at number_order c.args.key c.in-Many.tree n w ((c.get_mut.follows.holds w).3 (subst IsSome value refl)));
      became = (c.merge-in-Many.ensures.ok, c.merge-in-Many.ensures.err);
    }

pub returns-in-Err-clause-none : goal.returns-in-Err-clause-none
returns-in-Err-clause-none c =
    let goes = subst (λ es. GoesAt nat_cmp c.args.key es c.in-Err.field-0) c.as_slice.ensures.value (c.in-Err.ensures).missing in
    few_none c.args.key (entries_of c.args.self.now) c.in-Few.list.items c.in-Err.field-0 (ap entries_of c.in-Few.is) c.requires goes
