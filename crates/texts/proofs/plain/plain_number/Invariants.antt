use Rattle.std.proofs.Common.{◌≡◌, ◌≤◌, true, take}
use Rattle.std.specs.Str.{all_ascii_digits}
use Rattle.texts.specs.Number.{value_from}
use Rattle.texts.proofs.plain.plain_number.Given as goal

abbrev pub invariant-loop-at : goal.invariant-loop-at
invariant-loop-at l = record {
  digits : all_ascii_digits (take l.at l.text) ≡ true;
  value : l.at ≤ 9 → l.value ≡ value_from 0 (take l.at l.text);
}
