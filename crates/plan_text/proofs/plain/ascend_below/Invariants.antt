use Rattle.std.proofs.Common.{◌≡◌, ◌≤◌, true, nat_lt, take}
use Rattle.std.specs.List.{list_all}
use Rattle.texts.specs.Numbers.{ascending}
use Rattle.plan_text.proofs.plain.ascend_below.Given as goal

abbrev pub invariant-loop-number : goal.invariant-loop-number
invariant-loop-number l = record {
  ascending : ascending (take l.number-index l.numbers) ≡ true;
  below : list_all (λ x. nat_lt x l.least) (take l.number-index l.numbers) ≡ true;
  within : l.least ≤ l.limit;
}
