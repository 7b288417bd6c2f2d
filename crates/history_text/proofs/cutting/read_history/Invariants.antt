use Rattle.std.proofs.Common.{ℕ, List}
use Rattle.history_text.specs.Cutter.{HasRoom}
use Rattle.history_text.proofs.Pieces.{So, Told}
use Rattle.history_text.proofs.cutting.read_history.Given as goal

abbrev pub invariant-reads : goal.invariant-reads
invariant-reads g l = record {
  room : HasRoom l.cutter;
  some : (whole : List ℕ) × So l.fn.cutter l.cutter whole l.left.items × Told l.fn.first.items whole (g.R.Read.remaining l.fn.input) (g.R.Read.remaining l.input);
}
