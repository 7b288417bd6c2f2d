use Rattle.std.proofs.Common.{◌≡◌, take}
use Rattle.texts.specs.Number.{value_from, capped}
use Rattle.texts.proofs.number.capped_value.Given as goal

abbrev pub invariant-loop-at : goal.invariant-loop-at
invariant-loop-at l = l.value ≡ capped (value_from 0 (take l.at l.digits))
