-- The bytes so far are what the reader gave.
use Rattle.std.proofs.Common.{◌≤◌, ◌<◌, length}
use Rattle.std.specs.Io.KnownBytes.{Consumes}
use Rattle.ringplan_answers.specs.Io.{max_input}
use Rattle.ringplan_answers.proofs.input.read_all.Given as goal

abbrev pub invariant-loop-turn : goal.invariant-loop-turn
invariant-loop-turn g l = (length l.bytes.items ≤ max_input) × (0 < length l.chunk.items) × Consumes (g.R.Read.remaining l.fn.input) (g.R.Read.remaining l.input) l.bytes.items
