use Rattle.std.proofs.Common.{refl, sym, subst}
use Rattle.std.specs.List.Sorted.{IsStrictlySortedBy}
use Rattle.std.specs.Ordering.{nat_cmp}
use Rattle.store_maps.specs.Chunks.{AreNarrow}
use Rattle.store_maps.specs.Sorted.{Ascends}
use Rattle.store_maps.proofs.slot_map.SlotMap.new.Goals as goal

pub invariant_of-result : goal.invariant_of-result
unfolding IsStrictlySortedBy
invariant_of-result c = record {
  order = subst (Ascends nat_cmp) (sym c.new-2.ensures.items) tt;
  narrow = subst AreNarrow (sym c.new-2.ensures.items) (λ d l. refl);
  bare = c.new.ensures.places;
}
