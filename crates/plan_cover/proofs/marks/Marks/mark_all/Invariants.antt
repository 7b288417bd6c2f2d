use Rattle.std.proofs.Common.{◌≡◌, ℕ, length}
use Rattle.std.specs.Prelude.{◌||◌, ◌&&◌}
use Rattle.ring_names.specs.Lists.{has}
use Rattle.ring_table.specs.Value.{is_side}
use Rattle.ring_table.specs.declared.allowance.Side.{Side}
use Rattle.plan_cover.specs.Looking.Places.{is_marked, place_count, is_within}
use Rattle.plan_cover.proofs.marks.Marks.mark_all.Given as goal

abbrev pub invariant-numbers : goal.invariant-numbers
invariant-numbers l = record {
  marked : (s : Side) (n : ℕ) → ((is_side s l.side && has n l.rest && is_within l.fn.self l.side n) || is_marked l.self s n) ≡ ((is_side s l.side && has n l.numbers && is_within l.fn.self l.side n) || is_marked l.fn.self s n);
  places : place_count l.self ≡ place_count l.fn.self;
}

abbrev pub decreases-numbers : goal.decreases-numbers
decreases-numbers l = length l.rest
