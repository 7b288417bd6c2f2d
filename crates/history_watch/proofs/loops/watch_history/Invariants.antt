use Rattle.std.proofs.Common.{ℕ, List, ◌≢◌}
use Rattle.std.specs.Io.KnownBytes.{Appends, Consumes}
use Rattle.history_text.specs.declared.reader.Stage.TheVariants.{Over}
use Rattle.history_watch.specs.Watching.{HasRoom, IsWatching}
use Rattle.history_watch.specs.Loops.{so_far}
use Rattle.history_watch.proofs.loops.watch_history.Given as goal

abbrev pub invariant-reads : goal.invariant-reads
invariant-reads g l = record {
  room : HasRoom l.watch;
  goes_on : l.watch.reader.stage ≢ Over;
  some : (bytes : List ℕ) × Consumes (g.R.Read.remaining l.fn.input) (g.R.Read.remaining l.input) bytes × IsWatching l.approved.ring l.approved.plan bytes l.watch;
  shown : Appends (g.W.Write.contents l.fn.output) (g.W.Write.contents l.output) (so_far l.every l.watch.count);
}
