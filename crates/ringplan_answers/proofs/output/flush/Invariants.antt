-- Nothing was written.
use Rattle.std.specs.Io.KnownBytes.{Keeps}
use Rattle.ringplan_answers.proofs.output.flush.Given as goal

abbrev pub invariant-loop-turn : goal.invariant-loop-turn
invariant-loop-turn g l = Keeps (g.W.Write.contents l.initial.output) (g.W.Write.contents l.output)
