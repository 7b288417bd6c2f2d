use Rattle.std.proofs.Common.{◌≡◌, ℕ, ◌<◌, ◌≤◌, ◌-◌, false, length, get_or}
use Rattle.std.specs.Prelude.{◌==◌}
use Rattle.texts.proofs.cut.cut_near.Given as goal

abbrev pub invariant-fours : goal.invariant-fours
invariant-fours l = record {
  within : l.start ≤ length l.bytes;
  others : (k : ℕ) → k < l.start → (get_or l.bytes k 0 == l.separator) ≡ false;
}

abbrev pub decreases-fours : goal.decreases-fours
decreases-fours l = length l.bytes - l.start

abbrev pub invariant-loop-at : goal.invariant-loop-at
invariant-loop-at l = (k : ℕ) → k < l.at → (get_or l.bytes k 0 == l.separator) ≡ false
