use Rattle.std.proofs.Common.{sym, subst}
use Rattle.std.specs.List.Sorted.{IsStrictlySortedBy}
use Rattle.std.specs.Ordering.{nat_cmp}
use Rattle.store_maps.specs.Places.{AreApart}
use Rattle.store_maps.specs.Sorted.{Ascends}
use Rattle.store_maps.proofs.key_tree.KeyTree.new.Goals as goal

pub invariant_of-result : goal.invariant_of-result
unfolding IsStrictlySortedBy
invariant_of-result c = record {
  order = subst (Ascends nat_cmp) (sym c.new.ensures) tt;
  apart = subst AreApart (sym c.new.ensures) (λ k. tt);
}
