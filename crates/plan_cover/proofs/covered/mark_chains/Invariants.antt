use Rattle.std.proofs.Common.{◌≡◌, ℕ, length}
use Rattle.std.specs.Prelude.{◌&&◌, ◌||◌}
use Rattle.plan_cover.specs.Clauses.{in_some}
use Rattle.plan_cover.specs.Looking.Guards.{chains_at}
use Rattle.plan_cover.specs.Looking.Places.{is_marked, place_count, is_within}
use Rattle.plan_cover.proofs.covered.mark_chains.Given as goal

abbrev pub invariant-chains : goal.invariant-chains
invariant-chains l = record {
  marked : (n : ℕ) → ((in_some n (chains_at l.chains l.side l.rest) && is_within l.fn.marks l.side n) || is_marked l.marks l.side n) ≡ ((in_some n (chains_at l.chains l.side l.numbers) && is_within l.fn.marks l.side n) || is_marked l.fn.marks l.side n);
  places : place_count l.marks ≡ place_count l.fn.marks;
}

abbrev pub decreases-chains : goal.decreases-chains
decreases-chains l = length l.rest
