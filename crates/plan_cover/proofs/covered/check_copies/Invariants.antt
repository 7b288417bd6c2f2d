use Rattle.std.proofs.Common.{◌≡◌, ℕ, true, length, map}
use Rattle.ring_names.specs.Lists.{has}
use Rattle.plan_stage.specs.Clauses.{first_failing}
use Rattle.plan_cover.specs.Looking.Guards.{chains_at, copy_guard, side_guards}
use Rattle.plan_cover.specs.Looking.Places.{is_within}
use Rattle.plan_cover.proofs.covered.check_copies.Given as goal

abbrev pub invariant-copies : goal.invariant-copies
invariant-copies l = record {
  first : first_failing (map (copy_guard (chains_at l.chains l.fn.of.side l.numbers) l.fn.of.node) l.rest) ≡ first_failing (side_guards l.copies l.chains l.numbers l.fn.of.node l.fn.of.side);
  within : (n : ℕ) → has n l.rest ≡ true → is_within l.fn.marks l.fn.of.side n ≡ true;
}

abbrev pub decreases-copies : goal.decreases-copies
decreases-copies l = length l.rest
