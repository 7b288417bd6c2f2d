use Rattle.std.proofs.Common.{◌≡◌, length, take}
use Rattle.plan_text.proofs.indexes.Indexes.from_numbers.Given as goal

abbrev pub invariant-loop-k : goal.invariant-loop-k
invariant-loop-k l = record {
  first : take l.k l.first ≡ take l.k l.numbers;
  room : length l.first ≡ 7;
}
