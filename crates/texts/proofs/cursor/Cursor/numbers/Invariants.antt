use Rattle.std.proofs.Common.{◌≡◌, ℕ, List, ◌++◌, length}
use Rattle.texts.specs.Numbers.{numbers_of, beyond}
use Rattle.texts.specs.KeptRow.{Measures}
use Rattle.texts.proofs.cursor.Cursor.numbers.Given as goal

abbrev pub invariant-numbers : goal.invariant-numbers
invariant-numbers l = record {
  rest : beyond l.self ≡ beyond l.fn.self;
  taken : (xs : List ℕ) × Measures xs l.measure × (xs ++ numbers_of l.self ≡ numbers_of l.fn.self);
}

abbrev pub decreases-numbers : goal.decreases-numbers
decreases-numbers l = length (numbers_of l.self)
