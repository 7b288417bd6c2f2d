use Rattle.std.proofs.Common.{◌≡◌, ℕ, ◌<◌, ◌≤◌, true, false, get_or, take}
use Rattle.std.specs.Prelude.{◌==◌}
use Rattle.std.specs.Str.{all_ascii_digits}
use Rattle.texts.specs.Number.{value_from}
use Rattle.texts.proofs.number.number_in_front.Given as goal

abbrev pub invariant-loop-at : goal.invariant-loop-at
invariant-loop-at l = record {
  digits : all_ascii_digits (take l.at l.bytes) ≡ true;
  value : l.at ≤ 9 → l.value ≡ value_from 0 (take l.at l.bytes);
  none : (k : ℕ) → k < l.at → (get_or l.bytes k 0 == 32) ≡ false;
}
