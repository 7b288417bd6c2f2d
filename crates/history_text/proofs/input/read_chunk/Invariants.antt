use Rattle.std.proofs.Common.{◌<◌, length}
use Rattle.std.specs.Io.KnownBytes.{Keeps}
use Rattle.history_text.proofs.input.read_chunk.Given as goal

abbrev pub invariant-turns : goal.invariant-turns
invariant-turns g l = (0 < length l.chunk) × Keeps (g.R.Read.remaining l.fn.input) (g.R.Read.remaining l.input)
