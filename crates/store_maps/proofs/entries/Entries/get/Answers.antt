use Rattle.std.proofs.Common.{◌≡◌, Some, None, IfSome, Option, sym, subst, arith}
use Rattle.std.proofs.Common.{Bor}
use Rattle.std.specs.Option.{option_copied}
use Rattle.store_maps.specs.Places.{value_in}
use Rattle.store_maps.specs.declared.entries.Entries.{Entries}
use Rattle.std.specs.Ordering.{nat_cmp}
use Rattle.store_maps.specs.Entries.{entries_of, IsInOrder}
use Rattle.store_maps.specs.Sorted.{GoesAt, IsThere}
use Rattle.store_maps.proofs.Sorted.{number_order, within, read_there, read_missing}
use Rattle.store_maps.proofs.entries.Entries.get.Goals as goal

copied_some : {X : Type 0} (o : Option (Bor X)) (v : Option X) → option_copied o ≡ v → IfSome o (λ x. v ≡ Some x.now)
copied_some None v e = tt
copied_some (Some x) v e = sym e

pub index-requires : goal.index-requires
index-requires c =
    let less = within nat_cmp c.args.key c.as_slice.result.now c.in-Ok.place (c.in-Ok.ensures).found in
    let all = c.as_slice.ensures.len in omega arith

pub returns-in-Ok-clause-some : goal.returns-in-Ok-clause-some
returns-in-Ok-clause-some c =
    let there = subst (λ es. IsThere nat_cmp c.args.key es c.in-Ok.place) c.as_slice.ensures.value (c.in-Ok.ensures).found in
    subst (λ (a : Entries). value_in (entries_of a) c.args.key ≡ Some c.index.result.now.1) (sym c.in-Few.is)
    (read_there number_order c.args.key c.in-Few.list.items c.in-Ok.place c.index.result.now there (sym c.index.ensures))

pub returns-in-Err-clause-none : goal.returns-in-Err-clause-none
returns-in-Err-clause-none c =
    let goes = subst (λ es. GoesAt nat_cmp c.args.key es c.in-Err.field-0) c.as_slice.ensures.value (c.in-Err.ensures).missing in
    subst (λ (a : Entries). value_in (entries_of a) c.args.key ≡ None) (sym c.in-Few.is)
    (read_missing number_order c.args.key c.in-Few.list.items c.in-Err.field-0 (subst IsInOrder c.in-Few.is c.requires) goes)

pub returns-in-Many-clause-some : goal.returns-in-Many-clause-some
returns-in-Many-clause-some c = subst (λ (a : Entries). IfSome c.get.result (λ v. value_in (entries_of a) c.args.key ≡ Some v.now)) (sym c.in-Many.is) (copied_some c.get.result (value_in c.in-Many.tree.entries c.args.key) c.get.ensures.value)
