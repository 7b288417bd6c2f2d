use Rattle.std.proofs.Common.{◌≡◌, take}
use Rattle.texts.proofs.compare.is_less_digits.Given as goal

abbrev pub invariant-loop-i : goal.invariant-loop-i
invariant-loop-i l = record { same : take l.i l.first ≡ take l.i l.second }
