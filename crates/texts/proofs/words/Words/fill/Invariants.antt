use Rattle.std.proofs.Common.{◌≡◌}
use Rattle.std.specs.Prelude.{None}
use Rattle.texts.proofs.words.Words.fill.Given as goal

abbrev pub invariant-words : goal.invariant-words
invariant-words l = l.initial.self ≡ None → l.self ≡ None
