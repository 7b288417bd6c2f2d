use Rattle.std.proofs.Common.{◌≡◌, ◌||◌, eqb, drop}
use Rattle.std.specs.Str.{bytes_eq}
use Rattle.texts.specs.Parts.{until}
use Rattle.texts.proofs.cut.stands_in_front.Given as goal

abbrev pub invariant-loop-at : goal.invariant-loop-at
invariant-loop-at l =
    bytes_eq (until (λ b. eqb b 32 || eqb b l.end) l.bytes) l.word ≡ bytes_eq (until (λ b. eqb b 32 || eqb b l.end) (drop l.at l.bytes)) (drop l.at l.word)
