-- What is gone from `rest` was written.
use Rattle.std.proofs.Common.{◌≡◌, ℕ, List, ◌++◌}
use Rattle.std.specs.Io.KnownBytes.{Appends}
use Rattle.ringplan_answers.proofs.output.write_all.Given as goal

abbrev pub invariant-loop-turn : goal.invariant-loop-turn
invariant-loop-turn g l = (front : List ℕ) × (l.fn.bytes ≡ front ++ l.rest) × Appends (g.W.Write.contents l.initial.output) (g.W.Write.contents l.output) front
