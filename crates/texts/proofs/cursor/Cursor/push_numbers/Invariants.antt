use Rattle.std.proofs.Common.{◌≡◌, ◌++◌, length, nat_lt, true}
use Rattle.std.specs.List.{list_all}
use Rattle.texts.specs.Numbers.{numbers_of}
use Rattle.texts.proofs.cursor.Cursor.push_numbers.Given as goal

abbrev pub invariant-numbers : goal.invariant-numbers
invariant-numbers l = record {
  small : list_all (λ x. nat_lt x 4294967296) (numbers_of l.self) ≡ true;
  rest : l.out.items ++ numbers_of l.self ≡ l.fn.out.items ++ numbers_of l.fn.self;
}

abbrev pub decreases-numbers : goal.decreases-numbers
decreases-numbers l = length (numbers_of l.self)
