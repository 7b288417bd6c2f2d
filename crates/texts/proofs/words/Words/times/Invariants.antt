use Rattle.std.proofs.Math.ListN.{replicate}
use Rattle.texts.specs.Writing.{GoesOn}
use Rattle.texts.proofs.words.Words.times.Given as goal

abbrev pub invariant-turns : goal.invariant-turns
invariant-turns l = GoesOn l.initial.self l.self (replicate l.turn l.byte)
