use Rattle.std.proofs.Common.{◌≡◌, take, min}
use Rattle.texts.specs.Number.{value_from}
use Rattle.change_text.proofs.number.value_of.Given as goal

abbrev pub invariant-loop-at : goal.invariant-loop-at
invariant-loop-at l = l.value ≡ min (value_from 0 (take l.at l.digits)) 281474976710656
