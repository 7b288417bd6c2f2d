use Rattle.std.proofs.Common.{◌≤◌, ◌-◌}
use Rattle.history_watch.specs.Loops.{Shows}
use Rattle.history_watch.proofs.loops.show_all.Given as goal

abbrev pub invariant-counts : goal.invariant-counts
invariant-counts g l = record {
  within : l.count ≤ l.after;
  shows : Shows l.every l.before l.count (g.W.Write.contents l.fn.output) (g.W.Write.contents l.output);
}

abbrev pub decreases-counts : goal.decreases-counts
decreases-counts g l = l.after - l.count
