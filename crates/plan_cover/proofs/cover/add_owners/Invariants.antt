use Rattle.std.proofs.Common.{◌≡◌, true, map, length}
use Rattle.std.specs.Prelude.{nat_lt, ◌&&◌}
use Rattle.std.specs.List.{list_all}
use Rattle.ring_table.specs.declared.allowance.NodeSide.{NodeSide}
use Rattle.ring_table.specs.declared.allowance.Side.TheVariants.{Give}
use Rattle.plan_cover.specs.Looking.Numbers.{copies_kept, with_last_if}
use Rattle.plan_cover.specs.Looking.Serving.{serving_at, owns_some, counts_at}
use Rattle.plan_cover.proofs.cover.add_owners.Given as goal

abbrev pub invariant-slots : goal.invariant-slots
invariant-slots l = record {
  within : list_all (λ i. nat_lt i l.served.ring.now.n) l.rest ≡ true;
  added : (y : NodeSide) → with_last_if (counts_at l.served.ring.now Give y && owns_some (serving_at l.served.ring.now l.served.present.now) (map (λ i. record { partition = l.partition; index = i }) l.rest) y.node) l.number (copies_kept l.copies y) ≡ with_last_if (counts_at l.served.ring.now Give y && owns_some (serving_at l.served.ring.now l.served.present.now) (map (λ i. record { partition = l.partition; index = i }) l.from) y.node) l.number (copies_kept l.fn.copies y);
}

abbrev pub decreases-slots : goal.decreases-slots
decreases-slots l = length l.rest
