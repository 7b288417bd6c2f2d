use Rattle.std.proofs.Common.{◌≡◌, ◌∷◌, length, true}
use Rattle.texts.specs.Number.{value_from, is_number}
use Rattle.texts.specs.Numbers.{numbers_of, ascending}
use Rattle.texts.proofs.number_row.NumberRow.are_ascending.Given as goal

abbrev pub invariant-numbers : goal.invariant-numbers
invariant-numbers l = record {
  number : is_number l.last ≡ true;
  rest : ascending (value_from 0 l.last ∷ numbers_of l.numbers) ≡ ascending l.fn.self;
}

abbrev pub decreases-numbers : goal.decreases-numbers
decreases-numbers l = length (numbers_of l.numbers)
