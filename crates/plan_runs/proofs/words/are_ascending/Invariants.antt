use Rattle.std.proofs.Common.{◌≡◌, ◌∷◌, length}
use Rattle.texts.specs.Numbers.{ascending}
use Rattle.plan_runs.proofs.words.are_ascending.Given as goal

abbrev pub invariant-numbers : goal.invariant-numbers
invariant-numbers l = ascending (l.last ∷ l.rest) ≡ ascending l.fn.numbers

abbrev pub decreases-numbers : goal.decreases-numbers
decreases-numbers l = length l.rest
