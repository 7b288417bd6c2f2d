use Rattle.std.proofs.Common.{◌≡◌, true, length}
use Rattle.std.specs.Prelude.{nat_lt, max}
use Rattle.std.specs.List.{list_all}
use Rattle.plan_moves.specs.Rounds.{greatest}
use Rattle.plan_moves.proofs.depth.greatest.Given as goal

abbrev pub invariant-places : goal.invariant-places
invariant-places l = record {
  within : list_all (λ p. nat_lt p (length l.values)) l.rest ≡ true;
  most : max l.most (greatest l.values l.rest) ≡ greatest l.values l.places;
}

abbrev pub decreases-places : goal.decreases-places
decreases-places l = length l.rest
